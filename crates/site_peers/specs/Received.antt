-- What a link has received (this project's own).
use Rattle.std.specs.Prelude.{ℕ, ◌≡◌, ◌⊎◌, ◌+◌, Bool, IsSomeAnd, List, None, Option, Some, [], ◌∷◌, ◌++◌, length, nat_lt, replicate}
use Rattle.std.specs.List.{All, filter}
use Rattle.std.specs.Io.KnownBytes.{Consumes}
use Rattle.link_stream.specs.Items.{IsFrame, beat}
use Rattle.link_stream.specs.Receiving.{IsCause}
use Rattle.link_stream.specs.Sequences.{all_tagged}
use Rattle.link_stream.specs.Tagged.{TaggedState}
use Rattle.site_peers.specs.declared.link_inlet.InletFault.{InletFault}
use Rattle.site_peers.specs.declared.link_inlet.InletFault.TheVariants.{Acknowledge, Receive}

-- a source had `before` left and has `after` left now: the bytes that were held and those that came are these items, each with the tag of
-- its counter, and the bytes that are held now
pub record HasReceived (before after : Option (List ℕ)) (old : TaggedState) (items : List (List ℕ)) (new : TaggedState) : Type 0 where
  pub bytes : List ℕ
  pub came : Consumes before after bytes
  pub held : old.held ++ bytes ≡ all_tagged old.key old.taken items ++ new.held
  pub taken : new.taken ≡ old.taken + length items
  pub key : new.key ≡ old.key

-- beats were received, and then this frame
pub record HasGivenFrame (before after : Option (List ℕ)) (old : TaggedState) (frame : List ℕ) (new : TaggedState) : Type 0 where
  pub beats : ℕ
  pub received : HasReceived before after old (replicate beats beat ++ frame ∷ []) new
  pub is_frame : IsFrame frame

-- why a link gives nothing more: the receiver's cause, or that nothing can be acknowledged
abbrev pub IsInletCause : InletFault → TaggedState → Bool → Bool → Type 0
IsInletCause (Receive fault) stream ended failed = IsCause fault stream ended failed
IsInletCause (Acknowledge fault) stream ended failed = Unit {0}

-- beats were received, and what is held then gives nothing more, for this fault
pub record HasStopped (before : Option (List ℕ)) (old : TaggedState) (fault : InletFault) (ended failed : Bool) : Type 0 where
  pub beats : ℕ
  pub left : Option (List ℕ)
  pub stream : TaggedState
  pub received : HasReceived before left old (replicate beats beat) stream
  pub cause : IsInletCause fault stream ended failed

-- a fault of the caller's has stopped it here, or the link gives nothing more for this fault of its own
abbrev pub HasEndedAt : {F : Type 0} → Option F → (here left : Option (List ℕ)) → (at stream : TaggedState) → Option InletFault → (ended failed : Bool) → Type 0
HasEndedAt (Some cause) here left at stream own ended failed = (here ≡ left) × (at ≡ stream)
HasEndedAt None here left at stream own ended failed = IsSomeAnd own (λ fault. HasStopped here at fault ended failed)

-- a beat has four bytes, and a frame more
abbrev pub without_beats : List (List ℕ) → List (List ℕ)
without_beats items = filter (λ item. nat_lt 4 (length item)) items

-- an item is a beat or a frame
abbrev pub IsBeatOrFrame : List ℕ → Type 0
IsBeatOrFrame item = (item ≡ beat) ⊎ IsFrame item

-- a source had `before` left and has `after` left now: beats and frames were received, and the frames among them are these
pub record HasGivenFrames (before after : Option (List ℕ)) (old : TaggedState) (frames : List (List ℕ)) (new : TaggedState) : Type 0 where
  pub items : List (List ℕ)
  pub received : HasReceived before after old items new
  pub are : All IsBeatOrFrame items
  pub frames_are : without_beats items ≡ frames
