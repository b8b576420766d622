-- Of the counts so far those are dropped that are dead there.
use Rattle.std.proofs.Common.{◌+◌, ◌-◌, ◌≤◌, ◌&&◌}
use Rattle.std.specs.Prelude.{nat_lt}
use Rattle.member_orset.specs.Joining.{dead_in_run}
use Rattle.member_orset.proofs.joining.drop_dead_in.Given as goal
use Rattle.live_cells.specs.LiveStates.{IsThinned}

abbrev pub invariant-loop-dot : goal.invariant-loop-dot
invariant-loop-dot l = record {
  least : l.run.first ≤ l.first;
  most : l.first ≤ l.run.last + 1;
  thinned : IsThinned (λ q. dead_in_run l.run l.there.live q && nat_lt q.count l.first) l.fn.cells l.cells;
}

abbrev pub decreases-loop-dot : goal.decreases-loop-dot
decreases-loop-dot l = (l.run.last + 1) - l.first
