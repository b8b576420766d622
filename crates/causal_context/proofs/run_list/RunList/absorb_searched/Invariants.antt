-- The others so far are in.
use Rattle.std.proofs.Common.{◌≡◌, ◌+◌, ◌≤◌, take}
use Rattle.std.specs.FinSet as sets
use Rattle.dots.specs.DotSets.{run_count, set_of}
use Rattle.causal_context.proofs.run_list.RunList.absorb_searched.Given as goal

abbrev pub invariant-loop-run : goal.invariant-loop-run
invariant-loop-run l = record {
  united : set_of l.self.items ≡ sets.union (set_of l.fn.self.items) (set_of (take l.run-index l.others));
  few : run_count (set_of l.self.items) ≤ run_count (set_of l.fn.self.items) + l.run-index;
  room : l.fn.self.room ≤ l.self.room;
}
