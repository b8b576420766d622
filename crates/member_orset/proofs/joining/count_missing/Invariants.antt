-- Those so far are counted.
use Rattle.std.proofs.Common.{◌≡◌, ◌≤◌, take, not}
use Rattle.std.specs.List.{count_by}
use Rattle.std.specs.FinMap as map
use Rattle.member_orset.proofs.joining.count_missing.Given as goal

abbrev pub invariant-loop-placed : goal.invariant-loop-placed
invariant-loop-placed l = record {
  same : l.there ≡ l.fn.there;
  few : l.count ≤ l.placed-index;
  counted : l.count ≡ count_by (λ p. not (map.contains_key l.fn.there p.dot)) (take l.placed-index l.dots);
}
