-- The parts of a replica, as a store keeps them: their invariant, the causes for which they are refused, and the replica that they
-- make.
use Rattle.std.specs.Prelude.{ℕ, ⊤, ◌≡◌, ◌≤◌, ◌<◌, ◌⊎◌, List, length}
use Rattle.dots.specs.declared.limits.TheConstants.{MOST_COUNT, MOST_LIVE, MOST_RUNS}
use Rattle.member_orset.specs.Members.{cells_joined, runs_joined}
use Rattle.member_orset.specs.declared.join_fault.JoinFault.{JoinFault}
use Rattle.member_orset.specs.declared.join_fault.JoinFault.TheVariants as join
use Rattle.delta.specs.DeltaStates.{DeltaState, IsSame}
use Rattle.delta.specs.Joining.{DeltasAgree, DeltasInConflict, IsJoinOf}
use Rattle.replica.specs.declared.restore_fault.RestoreFault.{RestoreFault}
use Rattle.replica.specs.declared.restore_fault.RestoreFault.TheVariants.{NumberTooLarge, OwnDots, OwnStamps, NoSuchQueue, Conflict, CellsFull, RunsFull, Memory}
use Rattle.replica.specs.Keeping.{AreInQueues, HasOwnDots, HasOwnStamps}
use Rattle.replica.specs.Site.{SiteState}
use Rattle.replica.specs.Taking.{HasDotPast}

-- the parts, as the site that they are to make; `last` has the last count, time and frame number
abbrev pub parts_of : ℕ → List (List ℕ) → DeltaState → DeltaState → ℕ × ℕ × ℕ → SiteState
parts_of site names state pending last = record {
  site = site;
  names = names;
  state = state;
  pending = pending;
  last_count = last.0;
  last_time = last.1;
  frames = last.2;
}

-- ---- the invariant of the parts

-- the last numbers are at most 2^40
pub record HasSmallNumbers (s : SiteState) : Type 0 where
  pub count : s.last_count ≤ MOST_COUNT
  pub time : s.last_time ≤ MOST_COUNT
  pub frames : s.frames ≤ MOST_COUNT

-- the site's own dots in the state are those of the counts up to its last, and the buffer has no later one
pub record HasItsDots (s : SiteState) : Type 0 where
  pub state : HasOwnDots s.site s.last_count s.state
  pub pending : HasDotPast s.site s.last_count s.pending.members.known → ⊥

-- the site's own stamps in the state and the buffer are of times up to its last
pub record HasItsStamps (s : SiteState) : Type 0 where
  pub state : HasOwnStamps s.site s.last_time s.state
  pub pending : HasOwnStamps s.site s.last_time s.pending

-- the state and the buffer are of queues of the list
pub record HasItsQueues (s : SiteState) : Type 0 where
  pub state : AreInQueues (length s.names) s.state
  pub pending : AreInQueues (length s.names) s.pending

-- the parts keep the invariant
pub record IsSound (s : SiteState) : Type 0 where
  pub numbers : HasSmallNumbers s
  pub dots : HasItsDots s
  pub stamps : HasItsStamps s
  pub queues : HasItsQueues s

-- ---- the refusals, in order

-- the part of the invariant that these parts lack, by the fault, where no cause before it applies
abbrev pub IsPartCause : SiteState → RestoreFault → Type 0
IsPartCause s NumberTooLarge = HasSmallNumbers s → ⊥
IsPartCause s OwnDots = HasSmallNumbers s × (HasItsDots s → ⊥)
IsPartCause s OwnStamps = HasSmallNumbers s × HasItsDots s × (HasItsStamps s → ⊥)
IsPartCause s NoSuchQueue = HasSmallNumbers s × HasItsDots s × HasItsStamps s × (HasItsQueues s → ⊥)
IsPartCause s Conflict = ⊥
IsPartCause s CellsFull = ⊥
IsPartCause s RunsFull = ⊥
IsPartCause s Memory = ⊥

-- the cause why a buffer can't be joined into a state, by the fault; `Memory` has no cause here
abbrev pub IsJoinCause : DeltaState → DeltaState → RestoreFault → Type 0
IsJoinCause state pending Conflict = DeltasInConflict state pending
IsJoinCause state pending CellsFull = DeltasAgree state pending × (MOST_LIVE < cells_joined state.members pending.members)
IsJoinCause state pending RunsFull =
    DeltasAgree state pending × (cells_joined state.members pending.members ≤ MOST_LIVE)
    × (MOST_RUNS < runs_joined state.members pending.members)
IsJoinCause state pending Memory = ⊤
IsJoinCause state pending NumberTooLarge = ⊥
IsJoinCause state pending OwnDots = ⊥
IsJoinCause state pending OwnStamps = ⊥
IsJoinCause state pending NoSuchQueue = ⊥

-- parts are refused for this cause: they lack a part of the invariant, or they keep it and the buffer can't be joined into the
-- state
abbrev pub IsRestoreCause : SiteState → RestoreFault → Type 0
IsRestoreCause s fault = IsPartCause s fault ⊎ (IsSound s × IsJoinCause s.state s.pending fault)

-- the fault of a restore for a buffer that can't be joined into the state
abbrev pub restore_fault_of : JoinFault → RestoreFault
restore_fault_of join.Conflict = Conflict
restore_fault_of join.CellsFull = CellsFull
restore_fault_of join.RunsFull = RunsFull
restore_fault_of join.Memory = Memory

-- ---- the replica that they make

-- a replica is made of these parts: its state is theirs with their buffer joined into it, and all else is as theirs
pub record IsRestored (s r : SiteState) : Type 0 where
  pub site : r.site ≡ s.site
  pub names : r.names ≡ s.names
  pub state : IsJoinOf s.state s.pending r.state
  pub pending : IsSame s.pending r.pending
  pub last_count : r.last_count ≡ s.last_count
  pub last_time : r.last_time ≡ s.last_time
  pub frames : r.frames ≡ s.frames
