use Rattle.std.proofs.Common.{◌-◌, ◌≤◌, length}
use Rattle.store_audit.specs.Stores.{AreNumbered}
use Rattle.store_audit.proofs.checking.missing.Given as goal

-- each store so far is of the site of its place
abbrev pub invariant-loop-place : goal.invariant-loop-place
invariant-loop-place l = record {
  few : l.place ≤ 64;
  within : l.place ≤ length l.stores;
  numbered : AreNumbered l.stores l.place;
}

abbrev pub decreases-loop-place : goal.decreases-loop-place
decreases-loop-place l = length l.stores - l.place
