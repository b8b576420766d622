-- The frames among the items that a link has received.
use Rattle.std.proofs.Common.{◌≡◌, ◌∙◌, ◌<◌, ℕ, List, [], ◌∷◌, ◌++◌, None, Option, Some, inl, inr, length, refl, replicate, suc, zero, ap, subst, arith}
use Rattle.std.specs.Prelude.{Bool, IsSomeAnd, nat_lt, true}
use Rattle.site_peers.specs.declared.link_inlet.InletFault.{InletFault}
use Rattle.std.proofs.lemmas.Bool.{lt-ltb}
use Rattle.std.specs.List.{All}
use Rattle.std.proofs.lemmas.List.Elements.{All-append, All-cons, All-nil, filter-append}
use Rattle.link_stream.specs.Items.{IsFrame, beat}
use Rattle.link_stream.specs.Tagged.{TaggedState}
use Rattle.site_pumps.specs.Inlets.{InletRun, InletWork}
use Rattle.site_peers.specs.Received.{HasEndedAt, HasGivenFrame, HasGivenFrames, HasReceived, HasStopped, IsBeatOrFrame, without_beats}
use Rattle.site_peers.proofs.ReceivedItems.{received_more, received_none}

no_beats : (n : ℕ) → without_beats (replicate n beat) ≡ []
no_beats zero = refl
no_beats (suc n) = no_beats n

-- a frame is none of the beats
one_frame : (frame : List ℕ) → nat_lt 4 (length frame) ≡ true → without_beats (frame ∷ []) ≡ frame ∷ []
one_frame frame counts = simp counts

-- beats, a frame and more items have this frame and the frames of the others
frame_first : (n : ℕ) (frame : List ℕ) (items : List (List ℕ)) → IsFrame frame → without_beats ((replicate n beat ++ frame ∷ []) ++ items) ≡ frame ∷ without_beats items
frame_first n frame items is =
    let long : 4 < length frame = omega (arith, is.1.0, is.2) in
    let counts : nat_lt 4 (length frame) ≡ true = lt-ltb 4 (length frame) long in
    let front : without_beats (replicate n beat ++ frame ∷ []) ≡ frame ∷ [] =
    filter-append (λ item. nat_lt 4 (length item)) (replicate n beat) (frame ∷ []) ∙ ap (λ l. l ++ without_beats (frame ∷ [])) (no_beats n) ∙ one_frame frame counts in
    filter-append (λ item. nat_lt 4 (length item)) (replicate n beat ++ frame ∷ []) items ∙ ap (λ l. l ++ without_beats items) front

beats_are : (n : ℕ) → All IsBeatOrFrame (replicate n beat)
beats_are zero = All-nil IsBeatOrFrame
beats_are (suc n) = All-cons IsBeatOrFrame beat (replicate n beat) (inl refl) (beats_are n)

-- beats, a frame, and more items are beats and frames
first_are : (n : ℕ) (frame : List ℕ) (items : List (List ℕ)) → IsFrame frame → All IsBeatOrFrame items → All IsBeatOrFrame ((replicate n beat ++ frame ∷ []) ++ items)
first_are n frame items is are =
    let one = All-cons IsBeatOrFrame frame [] (inr is) (All-nil IsBeatOrFrame) in
    All-append IsBeatOrFrame (replicate n beat ++ frame ∷ []) items (All-append IsBeatOrFrame (replicate n beat) (frame ∷ []) (beats_are n) one) are

-- an inlet that gives frames has received items with these frames
pub frames_of_run : {I : Type 0} (p q : I) (left : I → Option (List ℕ)) (stream : I → TaggedState) (Quiet : I → Type 0) (frames : List (List ℕ))
    → InletRun (λ old item new. HasGivenFrame (left old) (left new) (stream old) item (stream new) × Quiet new) p frames q → HasGivenFrames (left p) (left q) (stream p) frames (stream q)
frames_of_run {I} p q left stream Quiet [] run = record {
  items = [];
  received = subst (λ (x : I). HasReceived (left p) (left x) (stream p) [] (stream x)) run (received_none (left p) (stream p));
  are = All-nil IsBeatOrFrame;
  frames_are = refl;
}
frames_of_run p q left stream Quiet (frame ∷ frames) run =
    let rest = frames_of_run run.0 q left stream Quiet frames run.2 in
    let first = run.1.0 in record {
      items = (replicate first.beats beat ++ frame ∷ []) ++ rest.items;
      received = received_more (left p) (left run.0) (left q) (stream p) (stream run.0) (stream q) (replicate first.beats beat ++ frame ∷ []) rest.items first.received rest.received;
      are = first_are first.beats frame rest.items first.is_frame rest.are;
      frames_are = frame_first first.beats frame rest.items first.is_frame ∙ ap (λ l. frame ∷ l) rest.frames_are;
    }

-- an inlet that has no fault has none after it gave frames
quiet_after : {I : Type 0} (Gives : I → List ℕ → I → Type 0) (Quiet : I → Type 0) (frames : List (List ℕ)) (p q : I)
    → InletRun (λ old item new. Gives old item new × Quiet new) p frames q → Quiet p → Quiet q
quiet_after {I} Gives Quiet [] p q run is = subst (λ (x : I). Quiet x) run is
quiet_after Gives Quiet (frame ∷ frames) p q run is = quiet_after Gives Quiet frames run.0 q run.2 run.1.1

-- the same, whether the inlet has ended or a fault has stopped its caller
module _ {I F : Type 0} (left : I → Option (List ℕ)) (stream : I → TaggedState) (own : I → Option InletFault) (ended failed : I → Bool) where
  pub frames_of_work : (p q : I) (frames : List (List ℕ)) (fault : Option F)
      → InletWork (λ old item new. HasGivenFrame (left old) (left new) (stream old) item (stream new) × (own new ≡ None))
      (λ old new. own old ≡ None → IsSomeAnd (own new) (λ cause. HasStopped (left old) (stream old) cause (ended new) (failed new))) p frames fault q
      → (after : Option (List ℕ)) × (last : TaggedState) × HasGivenFrames (left p) after (stream p) frames last
      × (own p ≡ None → HasEndedAt fault after (left q) last (stream q) (own q) (ended q) (failed q))
  frames_of_work p q frames (Some cause) work = (left q, stream q, frames_of_run p q left stream (λ i. own i ≡ None) frames work, λ is. (refl, refl))
  frames_of_work p q frames None work = (
    left work.0,
    stream work.0,
    frames_of_run p work.0 left stream (λ i. own i ≡ None) frames work.1,
    λ is. work.2 (quiet_after (λ old item new. HasGivenFrame (left old) (left new) (stream old) item (stream new)) (λ i. own i ≡ None) frames p work.0 work.1 is),
  )
