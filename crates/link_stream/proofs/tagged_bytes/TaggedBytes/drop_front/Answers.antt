use Rattle.std.proofs.Common.{◌≡◌, ◌∙◌, ◌++◌, List, ap, append_assoc, drop, refl, rules, sym, take, ℕ}
use Rattle.std.proofs.lemmas.List.{take-append-drop}
use Rattle.link_keys.specs.Macs.{tag_of}
use Rattle.link_stream.specs.Tagged.{HasTag, tagged}
use Rattle.link_stream.proofs.tagged_bytes.TaggedBytes.drop_front.Goals as goal

-- bytes that begin with an item and its tag
tagged_front : (key bytes : List ℕ) (counter size : ℕ) → HasTag key counter size bytes
    → bytes ≡ tagged key counter (take size bytes) ++ drop 16 (drop size bytes)
tagged_front key bytes counter size tag =
    sym (take-append-drop size bytes)
    ∙ ap (λ b. take size bytes ++ b) (sym (take-append-drop 16 (drop size bytes)))
    ∙ ap (λ t. take size bytes ++ (t ++ drop 16 (drop size bytes))) tag
    ∙ sym (append_assoc (take size bytes) (tag_of key counter (take size bytes)) (drop 16 (drop size bytes)))

pub returns : goal.returns
returns c =
    let tag : HasTag c.self.inside.key c.self.inside.taken c.args.size c.self.inside.held = search rules in
    let left : c.take_front-2.new.self ≡ drop 16 (drop c.args.size c.self.inside.held) = c.take_front-2.ensures ∙ ap (λ b. drop 16 b) c.take_front.ensures in
    let held : c.self.inside.held ≡ tagged c.self.inside.key c.self.inside.taken (take c.args.size c.self.inside.held) ++ c.take_front-2.new.self =
    tagged_front c.self.inside.key c.self.inside.held c.self.inside.taken c.args.size tag
    ∙ ap (λ b. tagged c.self.inside.key c.self.inside.taken (take c.args.size c.self.inside.held) ++ b) (sym left) in
    rw (← c.self.view_is) (record { held = held; taken = refl; key = refl })
