-- None of the counts so far is of a dot that is live here and not there.
use Rattle.std.proofs.Common.{ℕ, ◌≡◌, ◌+◌, ◌-◌, ◌≤◌, ◌<◌, ◌&&◌, false, not}
use Rattle.std.specs.FinMap as map
use Rattle.member_orset.proofs.joining.next_dead.Given as goal

abbrev pub invariant-loop-from : goal.invariant-loop-from
invariant-loop-from l = record {
  least : l.first ≤ l.from;
  none : (n : ℕ) → l.first ≤ n → n < l.from → (map.contains_key l.cells.live (record { site = l.site; count = n }) && not (map.contains_key l.there.live (record { site = l.site; count = n }))) ≡ false;
}

abbrev pub decreases-loop-from : goal.decreases-loop-from
decreases-loop-from l = (l.last + 1) - l.from
