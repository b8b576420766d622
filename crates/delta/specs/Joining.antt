-- The join of two deltas: when it exists, and its state.
use Rattle.std.specs.Prelude.{◌≡◌, ◌≢◌, Result, Ok, Err}
use Rattle.std.specs.FinSet as set
use Rattle.operations.specs.Totals.{join_of}
use Rattle.member_orset.specs.Members as sets
use Rattle.member_orset.specs.Refusals as refusals
use Rattle.member_orset.specs.declared.join_fault.JoinFault.{JoinFault}
use Rattle.site_totals.specs.Tally.{HasRoomFor}
use Rattle.delta.specs.DeltaStates.{DeltaState}

-- deltas `d` and `e` agree: their conditions of each dot do
abbrev pub DeltasAgree : DeltaState → DeltaState → Type 0
DeltasAgree d e = sets.SetsAgree d.members e.members

-- deltas `d` and `e` don't agree: their conditions of some dot are in conflict
abbrev pub DeltasInConflict : DeltaState → DeltaState → Type 0
DeltasInConflict d e = sets.SetsInConflict d.members e.members

-- `joint` is the join of deltas `d` and `e`: each dot has the join of its conditions, the dots of
-- both are known, and each total is the greater of both
pub record IsJoinOf (d e joint : DeltaState) : Type 0 where
  pub members : sets.IsJoinOf d.members e.members joint.members
  pub totals : joint.totals.entries ≡ join_of d.totals.entries e.totals.entries

-- the join of `e` into `d` can't fail: the members of `d` were prepared for it, if `e` knows a dot at
-- all, and there is room for its totals
pub record IsPrepared (d e : DeltaState) : Type 0 where
  pub members : e.members.known ≢ set.empty → sets.IsPrepared d.members e.members
  pub totals : HasRoomFor d.totals e.totals.entries

-- the join of delta `e` into `d` is refused just for the causes of their members, as `IsRefused` has it
abbrev pub IsRefusedJoin : DeltaState → DeltaState → (JoinFault → Type 0) → Type 0
IsRefusedJoin d e IsRefused = refusals.IsRefusedJoin d.members e.members IsRefused

-- a join was refused for the cause `fault`, and returned the other delta
abbrev pub IsRefusedFor : Result (Unit {0}) (JoinFault × DeltaState) → JoinFault → Type 0
IsRefusedFor (Ok u) fault = ⊥
IsRefusedFor (Err refused) fault = refused.0 ≡ fault
