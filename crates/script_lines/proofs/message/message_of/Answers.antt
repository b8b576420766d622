use Rattle.std.proofs.Common.{◌≡◌, ◌≢◌, ◌⊎◌, ℕ, List, [], ◌∷◌, Result, Ok, Err, Option, Some, None, ap, sym, subst, inl, inr}
use mathlib.Core.List.{tail-eq_of_cons-eq}
use Rattle.ami_text.specs.declared.feed_fault.FeedFault.{FeedFault}
use Rattle.ami_text.specs.declared.feed_fault.FeedFault.TheVariants.{Memory}
use Rattle.ami_text.specs.FeedStates.{FeedState}
use Rattle.ami_text.specs.MessageFields.{NameAndValue}
use Rattle.ami_text.specs.Stream.{Ending, Rest, Fault, FirstMessage, Gives as StreamGives, IsRest, Reads}
use Rattle.script_lines.specs.ScriptLines.{IsMessage, stream_of}
use Rattle.script_lines.proofs.message.message_of.Goals as goal

-- the messages of a stream
abbrev Messages : Type 0
Messages = List (List NameAndValue)

-- each stream has an outcome
abbrev EachReads : Type 0
EachReads = (bytes : List ℕ) → (messages : Messages) × (ending : Ending) × Reads bytes messages ending

-- each stream has one list of messages
abbrev OneList : Type 0
OneList = (bytes : List ℕ) (messages others : Messages) (ending other : Ending) → Reads bytes messages ending → Reads bytes others other → messages ≡ others

-- each stream has one ending
abbrev OneEnding : Type 0
OneEnding = (bytes : List ℕ) (messages others : Messages) (ending other : Ending) → Reads bytes messages ending → Reads bytes others other → ending ≡ other

-- whether a stream ends in a rest
abbrev ends_in_rest : Ending → Type 0
ends_in_rest (Rest rest) = Unit {0}
ends_in_rest (Fault fault) = ⊥

-- behind the first message of fields that are one message there is nothing
nothing_behind : EachReads → OneList → OneEnding → (fields : List ℕ) (message only : List NameAndValue) (held : List ℕ) → FirstMessage (stream_of fields) message held
    → IsMessage fields only → (rest : List ℕ) × StreamGives held [] rest × IsRest rest
nothing_behind each one end fields message only held first is = let outcome = each held in by outcome.0 outcome.1 outcome.2 where
  by : (messages : Messages) (ending : Ending) → Reads held messages ending → (rest : List ℕ) × StreamGives held [] rest × IsRest rest
  by messages (Rest rest) reads =
      let whole : Reads (stream_of fields) (message ∷ messages) (Rest rest) = ((held, first, reads.0), reads.1) in
      let none : messages ≡ [] = tail-eq_of_cons-eq (one (stream_of fields) (message ∷ messages) (only ∷ []) (Rest rest) (Rest is.0) whole is.1) in
      (rest, subst (λ (ms : Messages). StreamGives held ms rest) none reads.0, reads.1)
  by messages (Fault fault) reads =
      let whole : Reads (stream_of fields) (message ∷ messages) (Fault fault) = (reads.0, (held, first, reads.1), reads.2) in
      absurd (subst ends_in_rest (sym (end (stream_of fields) (message ∷ messages) (only ∷ []) (Fault fault) (Rest is.0) whole is.1)) tt)

not_shown : {A : Type 0} (r : Result (Option A) FeedFault) (o : Option A) (m : A) → r ≡ Ok o → o ≡ None → (r ≡ Ok (Some m)) ⊎ (r ≡ Err Memory) → ⊥
not_shown r o m is none (inl e) = cc
not_shown r o m is none (inr e) = cc

not_faulty : {A : Type 0} (r : Result (Option A) FeedFault) (f : FeedFault) (m : A) → r ≡ Err f → f ≢ Memory → (r ≡ Ok (Some m)) ⊎ (r ≡ Err Memory) → ⊥
not_faulty r f m is other (inl e) = cc
not_faulty r f m is other (inr e) = other (cc)

pub returns-in-Ok-Some-clause-none : goal.returns-in-Ok-Some-clause-none
returns-in-Ok-Some-clause-none c = λ none message is.
    let law = c.stream_has_one_outcome.ensures in
    let fields = c.args.fields.now in
    let found = c.in-Ok-Some.message in
    let left = c.next_message.new.self.held in
    let held = ap (λ (h : FeedState). h.held) c.in_ok-feed.ensures in
    let shown = rw c.in-Ok-Some.field-0-is at c.in-Ok-Some.ensures.message in
    let first = subst (λ (t : List ℕ). FirstMessage t found left) held shown in
    let rest = nothing_behind law.some law.messages law.ending fields found message left first is in
    c.only_message.ensures.none none rest.0 rest.1 rest.2

pub returns-in-Ok-None-clause-none : goal.returns-in-Ok-None-clause-none
returns-in-Ok-None-clause-none c = λ _ message is.
    let fed = c.in_ok-feed.ensures in
    let first = subst (λ (h : FeedState). FirstMessage h.held message is.1.0.0) (sym fed) is.1.0.1 in
    not_shown c.next_message.result _ message c.in-Ok-None.is c.in-Ok-None.field-0-is (c.next_message.ensures.message_shown (ap (λ (h : FeedState). h.fault) fed) message is.1.0.0 first)

pub returns-in-Err-clause-none : goal.returns-in-Err-clause-none
returns-in-Err-clause-none c = λ none message is.
    let fed = c.in_ok-feed.ensures in
    let first = subst (λ (h : FeedState). FirstMessage h.held message is.1.0.0) (sym fed) is.1.0.1 in
    let other : c.in-Err.fault ≢ Memory = rw none at c.without_message.ensures.stream in
    not_faulty c.next_message.result _ message c.in-Err.is other (c.next_message.ensures.message_shown (ap (λ (h : FeedState). h.fault) fed) message is.1.0.0 first)
