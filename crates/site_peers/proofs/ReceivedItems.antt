-- Items that a link has received, one after another.
use Rattle.std.proofs.Common.{◌≡◌, ◌∙◌, ◌+◌, ℕ, List, [], ◌∷◌, ◌++◌, IfSome, Option, Some, length, refl, replicate, sym, ap, subst, append_assoc, append-nil, arith, length-append}
use Rattle.std.proofs.lemmas.List.{replicate_more}
use Rattle.ami_text.proofs.Taking.{given_grows, given_none}
use Rattle.link_stream.specs.Items.{IsFrame, IsItem, beat, item_bytes}
use Rattle.link_stream.specs.declared.item.Item.{Item}
use Rattle.link_stream.specs.declared.item.Item.TheVariants.{Beat, Frame}
use Rattle.link_stream.specs.Receiving.{HasRead}
use Rattle.link_stream.specs.Sequences.{all_tagged}
use Rattle.link_stream.specs.Tagged.{TaggedState, TakesTagged}
use Rattle.site_peers.specs.Received.{HasGivenFrame, HasReceived, HasStopped, IsInletCause}
use Rattle.site_peers.specs.declared.link_inlet.InletFault.{InletFault}
use Rattle.site_peers.proofs.Items.{tagged_append, tagged_one}

-- nothing was received
pub received_none : (known : Option (List ℕ)) (stream : TaggedState) → HasReceived known known stream [] stream
received_none known stream = record { bytes = []; came = given_none known; held = append-nil stream.held; taken = omega arith; key = refl }

-- a read
pub received_read : (before after : Option (List ℕ)) (old new : TaggedState) → HasRead before after old new → HasReceived before after old [] new
received_read before after old new read = record {
  bytes = read.bytes;
  came = read.came;
  held = sym (ap (λ (s : TaggedState). s.held) read.held);
  taken = (let e = ap (λ (s : TaggedState). s.taken) read.held in omega (arith, e));
  key = ap (λ (s : TaggedState). s.key) read.held;
}

-- an item that was held
pub received_item : (known : Option (List ℕ)) (old : TaggedState) (item : List ℕ) (new : TaggedState) → TakesTagged old item new → HasReceived known known old (item ∷ []) new
received_item known old item new takes = record {
  bytes = [];
  came = given_none known;
  held = append-nil old.held ∙ takes.held ∙ ap (λ l. l ++ new.held) (sym (tagged_one old.key item old.taken));
  taken = (let e = takes.taken in omega (arith, e));
  key = takes.key;
}

-- the items after these
joined : (old mid new : TaggedState) (xs ys : List (List ℕ)) (b c : List ℕ) → old.held ++ b ≡ all_tagged old.key old.taken xs ++ mid.held
    → mid.held ++ c ≡ all_tagged mid.key mid.taken ys ++ new.held → mid.key ≡ old.key → mid.taken ≡ old.taken + length xs
    → old.held ++ (b ++ c) ≡ all_tagged old.key old.taken (xs ++ ys) ++ new.held
joined old mid new xs ys b c one two key taken =
    sym (append_assoc old.held b c)
    ∙ ap (λ l. l ++ c) one
    ∙ append_assoc (all_tagged old.key old.taken xs) mid.held c
    ∙ ap (λ l. all_tagged old.key old.taken xs ++ l) (two ∙ ap (λ k. all_tagged k mid.taken ys ++ new.held) key ∙ ap (λ n. all_tagged old.key n ys ++ new.held) taken)
    ∙ sym (append_assoc (all_tagged old.key old.taken xs) (all_tagged old.key (old.taken + length xs) ys) new.held)
    ∙ ap (λ l. l ++ new.held) (sym (tagged_append old.key xs ys old.taken))

-- one part, and then another
pub received_more : (before between after : Option (List ℕ)) (old mid new : TaggedState) (xs ys : List (List ℕ))
    → HasReceived before between old xs mid → HasReceived between after mid ys new → HasReceived before after old (xs ++ ys) new
received_more before between after old mid new xs ys one two = record {
  bytes = one.bytes ++ two.bytes;
  came = given_grows before between after one.bytes two.bytes one.came two.came;
  held = joined old mid new xs ys one.bytes two.bytes one.held two.held one.key one.taken;
  taken = (let a = one.taken in let b = two.taken in omega (arith, a, b, length-append xs ys));
  key = two.key ∙ one.key;
}

-- beats so far
pub record AreBeats (before after : Option (List ℕ)) (old new : TaggedState) : Type 0 where
  pub beats : ℕ
  pub received : HasReceived before after old (replicate beats beat) new

pub beats_none : (known : Option (List ℕ)) (stream : TaggedState) → AreBeats known known stream stream
beats_none known stream = record { beats = 0; received = received_none known stream }

-- a read more
pub beats_read : (before between after : Option (List ℕ)) (old mid new : TaggedState) → AreBeats before between old mid → HasReceived between after mid [] new → AreBeats before after old new
beats_read before between after old mid new are read = record {
  beats = are.beats;
  received = subst (λ l. HasReceived before after old l new) (append-nil (replicate are.beats beat))
      (received_more before between after old mid new (replicate are.beats beat) [] are.received read);
}

-- a beat more
pub beats_beat : (before between after : Option (List ℕ)) (old mid new : TaggedState) → AreBeats before between old mid → HasReceived between after mid (beat ∷ []) new → AreBeats before after old new
beats_beat before between after old mid new are one = record {
  beats = are.beats + 1;
  received = subst (λ l. HasReceived before after old l new) (replicate_more are.beats beat)
      (received_more before between after old mid new (replicate are.beats beat) (beat ∷ []) are.received one);
}

-- a frame after beats
pub beats_frame : (before between after : Option (List ℕ)) (old mid new : TaggedState) (frame : List ℕ) → AreBeats before between old mid
    → IsFrame frame → HasReceived between after mid (frame ∷ []) new → HasGivenFrame before after old frame new
beats_frame before between after old mid new frame are is one = record {
  beats = are.beats;
  received = received_more before between after old mid new (replicate are.beats beat) (frame ∷ []) are.received one;
  is_frame = is;
}

-- the end after beats
pub beats_stopped : (before between : Option (List ℕ)) (old mid : TaggedState) (fault : InletFault) (ended failed : _) → AreBeats before between old mid
    → IsInletCause fault mid ended failed → HasStopped before old fault ended failed
beats_stopped before between old mid fault ended failed are cause = record {
  beats = are.beats;
  left = between;
  stream = mid;
  received = are.received;
  cause = cause;
}

-- an item that was held, at a source that stays
pub received_held : {S : Type 0} (left : S → Option (List ℕ)) (before after : S) (old : TaggedState) (item : List ℕ) (new : TaggedState) → after ≡ before → TakesTagged old item new
    → HasReceived (left before) (left after) old (item ∷ []) new
received_held left before after old item new same takes =
    subst (λ known. HasReceived (left before) known old (item ∷ []) new) (ap left (sym same)) (received_item (left before) old item new takes)

-- what beats and an item lead to: beats again, or a frame
abbrev pub ItemOutcome : Option (List ℕ) → Option (List ℕ) → TaggedState → TaggedState → Item → Type 0
ItemOutcome before after old new Beat = AreBeats before after old new
ItemOutcome before after old new (Frame bytes) = HasGivenFrame before after old bytes new

outcome_of : (before between after : Option (List ℕ)) (old mid new : TaggedState) (item : Item) → AreBeats before between old mid
    → IsItem item → HasReceived between after mid (item_bytes item ∷ []) new → ItemOutcome before after old new item
outcome_of before between after old mid new Beat are is one = beats_beat before between after old mid new are one
outcome_of before between after old mid new (Frame bytes) are is one = beats_frame before between after old mid new bytes are is one

pub item_after : (before between after : Option (List ℕ)) (old mid new : TaggedState) (next : Option Item) (item shown : Item) → AreBeats before between old mid
    → next ≡ Some item → item ≡ shown → IfSome next (λ it. IsItem it × HasReceived between after mid (item_bytes it ∷ []) new) → ItemOutcome before after old new shown
item_after before between after old mid new next item shown are one two is =
    let e : IsItem item × HasReceived between after mid (item_bytes item ∷ []) new = subst (λ (n : Option Item). IfSome n (λ it. IsItem it × HasReceived between after mid (item_bytes it ∷ []) new)) one is in
    subst (λ (it : Item). ItemOutcome before after old new it) two (outcome_of before between after old mid new item are e.0 e.1)
