-- What a receiver has read and given (this project's own).
use Rattle.std.specs.Prelude.{ℕ, ◌≡◌, ◌⊎◌, ◌++◌, ◌-◌, ◌^◌, ◌<◌, ◌≤◌, Bool, List, Option, [], length, true}
use Rattle.std.specs.Io.KnownBytes.{Consumes, Keeps}
use Rattle.ami_text.specs.Devices.{HasGivenUpTo}
use Rattle.link_stream.specs.Items.{HasBadLength, HasWholeItem, IsPart}
use Rattle.link_stream.specs.Tagged.{HasTag, TaggedState}
use Rattle.link_stream.specs.declared.receive_fault.ReceiveFault.{ReceiveFault}
use Rattle.link_stream.specs.declared.receive_fault.ReceiveFault.TheVariants.{BadLength, CutOff, Ended, Exhausted, Failed, Memory, WrongTag}

-- a receiver: its stream, and the fault that it has returned, if any
pub record ReceiverState : Type 0 where
  pub stream : TaggedState
  pub fault : Option ReceiveFault

-- one read of a source, which had `before` left and has `after` left now: its bytes stand after those that were held
pub record HasRead (before after : Option (List ℕ)) (old new : TaggedState) : Type 0 where
  pub bytes : List ℕ
  pub came : Consumes before after bytes
  pub few : length bytes ≤ 16384
  pub held : new ≡ record old { held = old.held ++ bytes }

-- the bytes that are held begin with an item and its right tag
abbrev pub HasRightTag : TaggedState → Type 0
HasRightTag stream = (size : ℕ) × HasWholeItem stream.held size × HasTag stream.key stream.taken size stream.held

-- the bytes that are held begin with an item, and what follows isn't its tag
abbrev pub HasWrongTag : TaggedState → Type 0
HasWrongTag stream = (size : ℕ) × HasWholeItem stream.held size × (HasTag stream.key stream.taken size stream.held → ⊥)

-- why a stream gives no item, where its source has ended or not, and failed or not
abbrev pub IsCause : ReceiveFault → TaggedState → Bool → Bool → Type 0
IsCause BadLength stream ended failed = HasBadLength stream.held
IsCause WrongTag stream ended failed = HasWrongTag stream
IsCause Exhausted stream ended failed = HasRightTag stream × (stream.taken ≡ 2 ^ 64 - 1)
IsCause Ended stream ended failed = (stream.held ≡ []) × (ended ≡ true)
IsCause CutOff stream ended failed = IsPart stream.held × (0 < length stream.held) × (ended ≡ true)
IsCause Failed stream ended failed = IsPart stream.held × (failed ≡ true)
IsCause Memory stream ended failed = HasRightTag stream ⊎ IsPart stream.held

-- what a source has given when a receiver stops at a fault: nothing; at most one read where there was no memory for it
abbrev pub GivesAt : ReceiveFault → Option (List ℕ) → Option (List ℕ) → Type 0
GivesAt Memory before after = HasGivenUpTo before after 16384
GivesAt fault before after = Keeps before after
