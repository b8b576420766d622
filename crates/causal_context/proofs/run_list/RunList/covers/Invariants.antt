-- What is left of both lists settles the answer.
use Rattle.std.proofs.Common.{◌≡◌, ◌-◌, ◌+◌, ◌≤◌, length, drop}
use Rattle.causal_context.specs.RunLists.{all_within}
use Rattle.causal_context.proofs.run_list.RunList.covers.Given as goal

abbrev pub invariant-loop-found : goal.invariant-loop-found
invariant-loop-found l = record {
  ours : l.index ≤ length l.runs;
  others : l.found ≤ length l.wanted;
  rest : all_within (drop l.index l.runs) (drop l.found l.wanted) ≡ all_within l.runs l.wanted;
}

abbrev pub decreases-loop-found : goal.decreases-loop-found
decreases-loop-found l = (length l.runs - l.index) + (length l.wanted - l.found)
