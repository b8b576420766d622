-- The limits of the values of operations. What operations show doesn't depend on them.
use Rattle.std.specs.Prelude.{ℕ, ⊤, ◌<◌, ◌≤◌, List, Contains}
use Rattle.std.specs.FinSet as set
use Rattle.dots.specs.declared.label.Label.{Label}
use Rattle.dots.specs.declared.limits.TheConstants.{MOST_CALLS, QUEUES}
use Rattle.dots.specs.declared.member.Member.{Member}
use Rattle.dots.specs.Values.{Dot, Stamp, PauseState, IsSite, IsPenalty}
use Rattle.dots.specs.WithinLimits.{IsDot, IsStamp, IsMember, IsPause, IsLabel, AreDots}
use Rattle.dots.specs.Orders.{dot_cmp}
use Rattle.operations.specs.Operations.{Operation, Setting, Add, Write, Remove, Count, SetPenalty, SetPause, SetLabel, SetRing}
use Rattle.operations.specs.Knowledge.{Knowledge}

-- the value of a setting is within its limits: a penalty, a pause or a label; every ring is
abbrev pub IsSetting : Setting → Type 0
IsSetting (SetPenalty penalty) = IsPenalty penalty
IsSetting (SetPause pause) = IsPause pause
IsSetting (SetLabel label) = IsLabel label
IsSetting (SetRing ring) = ⊤

-- each dot of a list, and the member that stands with it, is within its limits
abbrev pub AreAsserted : List (Dot × Member) → Type 0
AreAsserted dots = (dot : Dot) (member : Member) → Contains dots (dot, member) → IsDot dot × IsMember member

-- all that an `Add` has is within its limits: the dot that it makes, its member, the stamp,
-- penalty, pause and label that it sets, and the older dots that it names
pub record IsAdd (dot : Dot) (member : Member) (stamp : Stamp) (penalty : ℕ) (pause : PauseState) (label : Label) (older : set.FinSet dot_cmp) : Type 0 where
  pub dot_is : IsDot dot
  pub member_is : IsMember member
  pub stamp_is : IsStamp stamp
  pub penalty_is : IsPenalty penalty
  pub pause_is : IsPause pause
  pub label_is : IsLabel label
  pub older_are : AreDots older

-- all that a `Write` has is within its limits: the dots that it asserts with their members, the
-- value that it sets, the stamp, and the older dots that it names
pub record IsWrite (dots : List (Dot × Member)) (setting : Setting) (stamp : Stamp) (older : set.FinSet dot_cmp) : Type 0 where
  pub dots_are : AreAsserted dots
  pub setting_is : IsSetting setting
  pub stamp_is : IsStamp stamp
  pub older_are : AreDots older

-- all that a `Count` has is within its limits: its site, its queue, and its total
pub record IsCountOf (site queue total : ℕ) : Type 0 where
  pub site_is : IsSite site
  pub queue_is : queue < QUEUES
  pub total_is : total ≤ MOST_CALLS

-- all values that an operation has are within their limits
abbrev pub IsWithinLimits : Operation → Type 0
IsWithinLimits (Add dot member stamp penalty pause label older) = IsAdd dot member stamp penalty pause label older
IsWithinLimits (Write dots setting stamp older) = IsWrite dots setting stamp older
IsWithinLimits (Remove dots) = AreDots dots
IsWithinLimits (Count site queue calls total) = IsCountOf site queue total

-- all values that the operations of knowledge `k` have are within their limits
abbrev pub AreWithinLimits : Knowledge → Type 0
AreWithinLimits k = (o : Operation) → Contains k o → IsWithinLimits o
