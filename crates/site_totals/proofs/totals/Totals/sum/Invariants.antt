use Rattle.std.proofs.Common.{◌≡◌, ◌*◌, ◌≤◌}
use Rattle.dots.specs.declared.limits.TheConstants.{MOST_CALLS}
use Rattle.operations.specs.Totals.{sum_below, totals_of}
use Rattle.site_totals.proofs.totals.Totals.sum.Given as goal

-- the sums over the sites that were seen
abbrev pub invariant-loop-number : goal.invariant-loop-number
invariant-loop-number l = record {
  completed : l.sum.completed ≡ sum_below l.number (λ site. (totals_of l.self.entries site l.queue).completed);
  abandoned : l.sum.abandoned ≡ sum_below l.number (λ site. (totals_of l.self.entries site l.queue).abandoned);
  small_completed : l.sum.completed ≤ l.number * MOST_CALLS;
  small_abandoned : l.sum.abandoned ≤ l.number * MOST_CALLS;
}
