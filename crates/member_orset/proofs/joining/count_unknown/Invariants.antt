-- Those so far are counted.
use Rattle.std.proofs.Common.{◌≡◌, ◌≤◌, take, not}
use Rattle.std.specs.List.{count_by}
use Rattle.std.specs.FinSet as set
use Rattle.member_orset.proofs.joining.count_unknown.Given as goal

abbrev pub invariant-loop-placed : goal.invariant-loop-placed
invariant-loop-placed l = record {
  few : l.count ≤ l.placed-index;
  counted : l.count ≡ count_by (λ p. not (set.contains l.known.dots p.dot)) (take l.placed-index l.dots);
}
