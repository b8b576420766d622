-- Which frames have an encoding.
use Rattle.std.specs.Prelude.{◌≡◌, ◌≤◌, true, None, Some}
use Rattle.std.specs.FinMap as map
use Rattle.std.specs.FinSet as set
use Rattle.dots.specs.declared.limits.TheConstants.{MOST_LIVE, MOST_RUNS}
use Rattle.dots.specs.DotSets.{run_count}
use Rattle.dots.specs.Values.{Dot, IsCount, IsSite}
use Rattle.dots.specs.WithinLimits.{AreDots}
use Rattle.operations.specs.Totals.{InLimits}
use Rattle.member_orset.specs.Members.{Holding}
use Rattle.delta.specs.declared.frame.Frame.{Frame}
use Rattle.delta_codec.specs.declared.limits.TheConstants.{VERSION}
use Rattle.delta_codec.specs.Parts.{IsCell}

-- a frame fits the format: its maker, its number, the dots that it knows, its live dots with member and fields, each of them known,
-- and its totals are within their limits, and so are the numbers of live dots and of runs of known dots
pub record FitsFormat (frame : Frame) : Type 0 where
  pub maker : IsSite frame.maker
  pub number : IsCount frame.number
  pub dots : AreDots frame.delta.members.known
  pub runs : run_count frame.delta.members.known ≤ MOST_RUNS
  pub cells : (dot : Dot) (held : Holding) → map.get frame.delta.members.live dot ≡ Some held → IsCell VERSION (dot, held)
  pub known : (dot : Dot) (held : Holding) → map.get frame.delta.members.live dot ≡ Some held → set.contains frame.delta.members.known dot ≡ true
  pub few : map.len frame.delta.members.live ≤ MOST_LIVE
  pub totals : InLimits frame.delta.totals.entries

-- no live dot of a frame has a ring
abbrev pub HasNoRing : Frame → Type 0
HasNoRing frame = (dot : Dot) (held : Holding) → map.get frame.delta.members.live dot ≡ Some held → held.1.ring ≡ None
