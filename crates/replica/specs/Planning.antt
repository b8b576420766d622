-- The plan of a command, before anything is changed.
use Rattle.std.specs.Prelude.{◌≡◌, ◌⊎◌, max, false, Result, Ok, Err, [], ◌∷◌}
use Rattle.operations.specs.Operations.{Operation}
use Rattle.member_orset.specs.Members.{IsWithinLimits}
use Rattle.delta.specs.Standing.{IsDeltaOf}
use Rattle.replica.specs.declared.planned.Planned.{Planned}
use Rattle.replica.specs.declared.refusal.Refusal.{Refusal}
use Rattle.replica.specs.declared.refusal.Refusal.TheVariants.{Memory}
use Rattle.replica.specs.Changes.{Meaning, Refused, is_exhausted, is_past_total, within_limits}
use Rattle.replica.specs.Changing.{IsChangeOf}
use Rattle.replica.specs.Commands.{MayWantMemory}
use Rattle.replica.specs.Site.{SiteState, view_of}
use Rattle.replica.specs.SiteViews.{count_used, time_used}

-- A planned change is that of one operation: the meaning is this operation within the limits, its numbers are left, the plan has
-- the site's last numbers after it, and the site may make it. It is made if there is room for it.
pub record IsPlan (s : SiteState) (meant : Meaning) (planned : Planned) : Type 0 where
  pub operation : Operation
  pub means : meant ≡ within_limits (view_of s s.state) (view_of s s.pending) operation
  pub stands : IsDeltaOf planned.change (operation ∷ [])
  pub not_exhausted : is_exhausted operation ≡ false
  pub not_past_total : is_past_total operation ≡ false
  pub counted : planned.count ≡ max (count_used s.site operation) s.last_count
  pub timed : planned.time ≡ max (time_used s.site operation) s.last_time
  pub change : IsChangeOf s planned.count planned.time planned.change
  pub limits : IsWithinLimits planned.change.members

-- why nothing is planned for a meaning: its refusal, or out of memory, where the meaning may run out of it
abbrev pub IsUnplanned : Meaning → Refusal → Type 0
IsUnplanned meant refusal = ((refusal ≡ Memory) × MayWantMemory meant) ⊎ (meant ≡ Refused refusal)

-- the plan of a meaning, or why there is none
abbrev pub IsPlanned : SiteState → Meaning → Result Planned Refusal → Type 0
IsPlanned s meant (Ok planned) = IsPlan s meant planned
IsPlanned s meant (Err refusal) = IsUnplanned meant refusal
