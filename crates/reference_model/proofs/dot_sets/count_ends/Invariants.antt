use Rattle.std.proofs.Common.{◌≡◌, ◌+◌, ◌≤◌, drop}
use Rattle.std.specs.FinSet as set
use Rattle.dots.specs.DotSets.{run_count}
use Rattle.reference_model.proofs.dot_sets.count_ends.Given as goal

-- the ends so far, and the runs of what is left, are the runs of all
abbrev pub invariant-loop-place : goal.invariant-loop-place
invariant-loop-place l = record {
  all : l.runs + run_count (set.from_list (drop l.place l.dots)) ≡ run_count (set.from_list l.dots);
  few : l.runs ≤ l.place;
}
