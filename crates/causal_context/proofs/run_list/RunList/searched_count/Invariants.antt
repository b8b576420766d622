-- The count is that of the union with the others so far.
use Rattle.std.proofs.Common.{◌≡◌, ◌+◌, ◌≤◌, take}
use Rattle.std.specs.FinSet as sets
use Rattle.dots.specs.DotSets.{run_count, set_of}
use Rattle.causal_context.proofs.run_list.RunList.searched_count.Given as goal

abbrev pub invariant-loop-run : goal.invariant-loop-run
invariant-loop-run l = record {
  value : l.count ≡ run_count (sets.union (set_of l.self.items) (set_of (take l.run-index l.others)));
  few : l.count ≤ run_count (set_of l.self.items) + l.run-index;
}
