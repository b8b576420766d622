use Rattle.std.proofs.Common.{◌≤◌}
use Rattle.causal_context.proofs.run_list.RunList.count_outside.Given as goal

-- none is counted twice
abbrev pub invariant-loop-run : goal.invariant-loop-run
invariant-loop-run l = l.outside ≤ l.run-index
