-- What contracts see of a frame.
use Rattle.std.specs.Prelude.{ℕ, ◌≡◌, ◌<◌, Some}
use Rattle.std.specs.FinMap as map
use Rattle.dots.specs.declared.limits.TheConstants.{QUEUES}
use Rattle.dots.specs.Values.{Dot, IsCount}
use Rattle.member_orset.specs.Members.{Holding}
use Rattle.delta.specs.declared.frame.Frame.{Frame}
use Rattle.delta.specs.DeltaStates.{DeltaState, IsSame}

-- the frame of the maker `maker` and the number `number`, with the delta `delta`
abbrev pub frame_of : ℕ → ℕ → DeltaState → Frame
frame_of maker number delta = record { maker = maker; number = number; delta = delta }

-- frames `x` and `y` are of one maker, have one number, and say the same
pub record IsSameFrame (x y : Frame) : Type 0 where
  pub maker : x.maker ≡ y.maker
  pub number : x.number ≡ y.number
  pub delta : IsSame x.delta y.delta

-- `frame` is within the ranges of the format: its number is from 1 to 2^40, and each live dot is of a queue below
-- 256; the types of its parts ensure all other ranges
pub record IsInRanges (frame : Frame) : Type 0 where
  pub number : IsCount frame.number
  pub queues : (dot : Dot) (held : Holding) → map.get frame.delta.members.live dot ≡ Some held → held.0.queue < QUEUES
