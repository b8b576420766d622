use Rattle.std.proofs.Common.{◌-◌, ◌≤◌, length}
use Rattle.store_audit.specs.Stores.{AreRisingTo}
use Rattle.store_audit.proofs.checking.doubled.Given as goal

-- each store so far is of a greater site than the one before it
abbrev pub invariant-loop-place : goal.invariant-loop-place
invariant-loop-place l = record {
  some : 1 ≤ l.place;
  rising : AreRisingTo l.stores l.place;
}

abbrev pub decreases-loop-place : goal.decreases-loop-place
decreases-loop-place l = length l.stores - l.place
