use Rattle.std.proofs.Common.{◌≡◌, ◌≤◌, ◌-◌}
use Rattle.live_cells.proofs.live_runs.live_run_end.Given as goal

-- the run is the one that begins at the place
abbrev pub invariant-loop-step : goal.invariant-loop-step
invariant-loop-step l = record {
  dots : l.run.dots.now ≡ l.dots;
  first : l.run.first ≡ l.first;
  some : 1 ≤ l.step;
}

abbrev pub decreases-loop-step : goal.decreases-loop-step
decreases-loop-step l = l.run.past - l.run.last

abbrev pub invariant-loop-run : goal.invariant-loop-run
invariant-loop-run l = record {
  dots : l.run.dots.now ≡ l.dots;
  first : l.run.first ≡ l.first;
}

abbrev pub decreases-loop-run : goal.decreases-loop-run
decreases-loop-run l = l.run.past - l.run.last
