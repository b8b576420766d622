-- Whether a delta can take a change: the join of both is small enough.
use Rattle.std.specs.Prelude.{ℕ, ◌<◌, ◌≤◌, ◌+◌, ◌⊎◌, Bool, ◌||◌, nat_lt, Result, Ok, Err}
use Rattle.std.specs.FinSet as set
use Rattle.dots.specs.Values.{Dot}
use Rattle.dots.specs.Orders.{dot_cmp}
use Rattle.dots.specs.DotSets.{run_count}
use Rattle.member_orset.specs.LiveDots.{live_dots_without}
use Rattle.dots.specs.declared.limits.TheConstants.{MOST_LIVE, MOST_RUNS}
use Rattle.member_orset.specs.Members.{KeepsIds, cells_joined, runs_joined}
use Rattle.delta.specs.DeltaStates.{DeltaState, IsUnchanged}
use Rattle.delta.specs.Joining.{IsJoinOf}
use Rattle.replica.specs.declared.refusal.Refusal.{Refusal}
use Rattle.replica.specs.declared.refusal.Refusal.TheVariants.{NoSuchQueue, AlreadyThere, NotThere, MembersFull, Exhausted, TotalFull, Memory}

-- a delta can take a change: there are few enough live dots and runs then
pub record HasRoomFor (d x : DeltaState) : Type 0 where
  pub cells : cells_joined d.members x.members ≤ MOST_LIVE
  pub runs : runs_joined d.members x.members ≤ MOST_RUNS

-- a delta can't take a change: there would be too many live dots, or too many runs
abbrev pub IsTooFullFor : DeltaState → DeltaState → Type 0
IsTooFullFor d x = (MOST_LIVE < cells_joined d.members x.members) ⊎ (MOST_RUNS < runs_joined d.members x.members)

-- a delta is joined with a change, and each dot keeps its id
pub record TakesIn (old x new : DeltaState) : Type 0 where
  pub joined : IsJoinOf old x new
  pub ids : KeepsIds old.members new.members
  pub room : HasRoomFor old x

-- the result of a change that two deltas are to take: both take it, or both stay as they are, since one of them would be too full
-- or memory ran out
abbrev pub BothTakeIn : DeltaState → DeltaState → DeltaState → DeltaState → DeltaState → Result (Unit {0}) Refusal → Type 0
BothTakeIn old other x new after (Ok u) = TakesIn old x new × TakesIn other x after
BothTakeIn old other x new after (Err MembersFull) = (IsUnchanged old new × IsUnchanged other after) × (IsTooFullFor old x ⊎ IsTooFullFor other x)
BothTakeIn old other x new after (Err Memory) = IsUnchanged old new × IsUnchanged other after
BothTakeIn old other x new after (Err NoSuchQueue) = ⊥
BothTakeIn old other x new after (Err AlreadyThere) = ⊥
BothTakeIn old other x new after (Err NotThere) = ⊥
BothTakeIn old other x new after (Err Exhausted) = ⊥
BothTakeIn old other x new after (Err TotalFull) = ⊥

-- whether a delta would have too many live dots or runs, if some dots were dead there, `more` others were live, and one more dot
-- were known
abbrev pub is_past_with : DeltaState → set.FinSet dot_cmp → ℕ → Dot → Bool
is_past_with d dead more dot =
    nat_lt MOST_LIVE (set.len (live_dots_without d.members dead) + more) || nat_lt MOST_RUNS (run_count (set.insert (set.union d.members.known dead) dot))
