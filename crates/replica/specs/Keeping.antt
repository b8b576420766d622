-- The invariant of every replica, whatever frames it has taken.
use Rattle.std.specs.Prelude.{ℕ, ◌≡◌, ◌≤◌, ◌<◌, nat_le, Option, Some, length}
use Rattle.std.specs.FinMap as map
use Rattle.std.specs.FinSet as set
use Rattle.dots.specs.declared.call_totals.CallTotals.{CallTotals}
use Rattle.dots.specs.declared.calls.Calls.{Calls}
use Rattle.dots.specs.declared.limits.TheConstants.{MOST_COUNT}
use Rattle.dots.specs.Values.{Dot}
use Rattle.operations.specs.Registers.{Entry}
use Rattle.operations.specs.Conditions.{DotFields, IsConditionBelow}
use Rattle.operations.specs.Totals.{Key, totals_of}
use Rattle.member_orset.specs.Members.{Holding, condition_of}
use Rattle.site_totals.specs.Raising.{number_of}
use Rattle.delta.specs.DeltaStates.{DeltaState}
use Rattle.replica.specs.Site.{SiteState}
use Rattle.replica.specs.SiteViews.{own_time}

-- a field was written by a site at a time up to this one, or by another site
abbrev pub IsWrittenBy : {T : Type 0} → ℕ → ℕ → Option (Entry T) → Type 0
IsWrittenBy {T} site time field = (entry : Entry T) → field ≡ Some entry → own_time site entry.stamp ≤ time

-- each field of a dot was written by a site at a time up to this one, or by another site
pub record AreWrittenBy (site time : ℕ) (fields : DotFields) : Type 0 where
  pub penalty : IsWrittenBy site time fields.penalty
  pub pause : IsWrittenBy site time fields.pause
  pub label : IsWrittenBy site time fields.label
  pub ring : IsWrittenBy site time fields.ring

-- a delta is below another: each condition is, and no total is greater
pub record IsBelow (d e : DeltaState) : Type 0 where
  pub conditions : (dot : Dot) → IsConditionBelow (condition_of d.members dot) (condition_of e.members dot)
  pub totals : (site queue : ℕ) (calls : Calls) → number_of calls (totals_of d.totals.entries site queue) ≤ number_of calls (totals_of e.totals.entries site queue)

-- the live dots and the totals of a delta are of queues below a number
pub record AreInQueues (queues : ℕ) (d : DeltaState) : Type 0 where
  pub members : (dot : Dot) (h : Holding) → map.get d.members.live dot ≡ Some h → h.0.queue < queues
  pub totals : (key : Key) (totals : CallTotals) → map.get d.totals.entries key ≡ Some totals → key.queue < queues

-- a site's own dots in a delta are those of the counts up to its last one
abbrev pub HasOwnDots : ℕ → ℕ → DeltaState → Type 0
HasOwnDots site last d = (count : ℕ) → 1 ≤ count → set.contains d.members.known (record { site = site; count = count }) ≡ nat_le count last

-- a site's own stamps in a delta are of times up to its last one
abbrev pub HasOwnStamps : ℕ → ℕ → DeltaState → Type 0
HasOwnStamps site last d = (dot : Dot) (h : Holding) → map.get d.members.live dot ≡ Some h → AreWrittenBy site last h.1

-- What a replica keeps: its own dots are exactly those of the counts up to its last one, its own stamps in both are up to its last time, the
-- buffer is below the state, both are of queues of its list, and its last numbers are within their limits.
pub record IsKept (s : SiteState) : Type 0 where
  pub own_dots : HasOwnDots s.site s.last_count s.state
  pub own_stamps : HasOwnStamps s.site s.last_time s.state
  pub pending_stamps : HasOwnStamps s.site s.last_time s.pending
  pub below : IsBelow s.pending s.state
  pub state_queues : AreInQueues (length s.names) s.state
  pub pending_queues : AreInQueues (length s.names) s.pending
  pub counts : s.last_count ≤ MOST_COUNT
  pub times : s.last_time ≤ MOST_COUNT
  pub frames : s.frames ≤ MOST_COUNT
