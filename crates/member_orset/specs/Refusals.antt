-- When a set refuses a change. Each record takes what it means that a call was refused for a cause, and says exactly
-- when it was; where several causes apply, the result is the first in the order of `JoinFault`.
use Rattle.std.specs.Prelude.{◌<◌, ◌≤◌, ◌↔◌, Option, Some}
use Rattle.std.specs.FinSet as set
use Rattle.dots.specs.declared.limits.TheConstants.{MOST_LIVE, MOST_RUNS}
use Rattle.dots.specs.declared.member.Member.{Member}
use Rattle.dots.specs.Values.{Dot}
use Rattle.dots.specs.DotSets.{run_count}
use Rattle.operations.specs.Conditions.{DotFields, Condition, Live, ConditionsAgree}
use Rattle.member_orset.specs.declared.join_fault.JoinFault.{JoinFault}
use Rattle.member_orset.specs.declared.join_fault.JoinFault.TheVariants.{Conflict, CellsFull, RunsFull}
use Rattle.member_orset.specs.Members.{Members, SetsAgree, SetsInConflict, ConditionsInConflict}
use Rattle.member_orset.specs.Members.{cells_joined, cells_with, condition_of, runs_joined}

-- the kill of a dot is refused for too many runs, and otherwise only when out of memory
pub record IsRefusedKill (s : Members) (dot : Dot) (IsRefused : JoinFault → Type 0) : Type 0 where
  pub agrees : IsRefused Conflict → ⊥
  pub has_place : IsRefused CellsFull → ⊥
  pub runs_full : IsRefused RunsFull ↔ (MOST_RUNS < run_count (set.insert s.known dot))

-- the condition that a dot is asserted with
abbrev pub live_condition : Member → DotFields → Option Condition
live_condition member fields = Some (Live member fields)

-- the assert of a dot, with a member and fields, is refused for these causes; without a conflict the conditions agree
pub record IsRefusedAssert (s : Members) (dot : Dot) (member : Member) (fields : DotFields)
    (IsRefused : JoinFault → Type 0) : Type 0 where
  pub agree : (IsRefused Conflict → ⊥)
      → ConditionsAgree (condition_of s dot) (live_condition member fields)
  pub conflict : IsRefused Conflict
      ↔ ConditionsInConflict (condition_of s dot) (live_condition member fields)
  pub cells_full : IsRefused CellsFull
      ↔ (ConditionsAgree (condition_of s dot) (live_condition member fields)
      × (MOST_LIVE < cells_with s dot))
  pub runs_full : IsRefused RunsFull
      ↔ ((cells_with s dot ≤ MOST_LIVE) × (MOST_RUNS < run_count (set.insert s.known dot)))

-- the join with another set is refused for these causes
pub record IsRefusedJoin (s t : Members) (IsRefused : JoinFault → Type 0) : Type 0 where
  pub conflict : IsRefused Conflict ↔ SetsInConflict s t
  pub cells_full : IsRefused CellsFull
      ↔ (SetsAgree s t × (MOST_LIVE < cells_joined s t))
  pub runs_full : IsRefused RunsFull
      ↔ (SetsAgree s t
      × (cells_joined s t ≤ MOST_LIVE)
      × (MOST_RUNS < runs_joined s t))
