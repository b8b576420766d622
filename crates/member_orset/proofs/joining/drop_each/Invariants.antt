-- Of the runs so far those are dropped that are dead there.
use Rattle.std.proofs.Common.{take}
use Rattle.live_cells.proofs.RunCounts.{dead_in_runs}
use Rattle.member_orset.proofs.joining.drop_each.Given as goal
use Rattle.live_cells.specs.LiveStates.{IsThinned}

abbrev pub invariant-loop-run : goal.invariant-loop-run
invariant-loop-run l = IsThinned (dead_in_runs (take l.run-index l.runs) l.there.live) l.fn.cells l.cells
