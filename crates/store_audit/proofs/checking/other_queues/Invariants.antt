use Rattle.std.proofs.Common.{◌-◌, ◌≤◌, length}
use Rattle.store_audit.specs.Stores.{HasOneList}
use Rattle.store_audit.proofs.checking.other_queues.Given as goal

-- each store so far has the queues of the first
abbrev pub invariant-loop-place : goal.invariant-loop-place
invariant-loop-place l = record {
  within : l.place ≤ length l.stores;
  one : HasOneList l.stores l.place;
}

abbrev pub decreases-loop-place : goal.decreases-loop-place
decreases-loop-place l = length l.stores - l.place
