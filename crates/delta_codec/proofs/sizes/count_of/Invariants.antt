use Rattle.std.proofs.Common.{◌≡◌, ◌+◌, ◌≤◌, length}
use Rattle.std.specs.FinMap as map
use Rattle.delta_codec.specs.declared.limits.TheConstants.{MOST_TOTALS}
use Rattle.delta_codec.proofs.sizes.count_of.Given as goal

-- what is counted, with what is still counted
abbrev pub invariant-loop-key : goal.invariant-loop-key
invariant-loop-key l = record {
  value : l.count + length l._key-iterator ≡ length (map.entries l.totals.entries);
  few : length (map.entries l.totals.entries) ≤ MOST_TOTALS;
}
