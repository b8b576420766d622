use Rattle.std.proofs.Common.{◌∙◌, ◌+◌, ◌∷◌, List, None, Option, Some, [], ap, append-nil, subst, sym, ℕ}
use Rattle.std.specs.Io.KnownBytes.{Appends, Keeps}
use Rattle.ami_text.proofs.Taking.{taken_grows}
use Rattle.link_stream.specs.Sending.{SenderState}
use Rattle.link_stream.specs.Sequences.{HaveSent, all_tagged}
use Rattle.link_stream.specs.Tagged.{tagged}
use Rattle.link_stream.proofs.laws.what_is_written_is_what_was_sent.Goals as goal

-- a sink that keeps what it has taken has taken nothing
keeps_none : (before after : Option (List ℕ)) → Keeps before after → Appends before after []
keeps_none None after keeps = tt
keeps_none (Some held) None keeps = absurd keeps
keeps_none (Some held) (Some now) keeps = keeps ∙ sym (append-nil held)

all_written : (items : List (List ℕ)) (before after : Option (List ℕ)) (old new : SenderState) → HaveSent before after old items new
    → Appends before after (all_tagged old.key old.sent items)
all_written [] before after old new (keeps, same) = keeps_none before after keeps
all_written (item ∷ items) before after old new (between, sender, first, rest) =
    taken_grows before between after (tagged old.key old.sent item) (all_tagged old.key (old.sent + 1) items) first.written
    (subst (λ (b : List ℕ). Appends between after b) (ap (λ k. all_tagged k sender.sent items) first.key ∙ ap (λ n. all_tagged old.key n items) first.sent)
    (all_written items between after sender new rest))

pub returns : goal.returns
returns c = λ before after old new items have. all_written items before after old new have
