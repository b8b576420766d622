-- The run and those that it took in stand between those before it and the rest.
use Rattle.std.proofs.Common.{◌-◌, ◌≤◌, length, take, drop}
use Rattle.causal_context.specs.Contexts.{IsRunWithinLimits}
use Rattle.causal_context.proofs.Uniting.{IsUniting}
use Rattle.causal_context.proofs.run_list.RunList.unite.Given as goal

abbrev pub invariant-loop-end : goal.invariant-loop-end
invariant-loop-end l = record {
  order : l.start ≤ l.end;
  within : l.end ≤ length l.runs;
  limit : IsRunWithinLimits l.united;
  uniting : IsUniting (take l.start l.runs) l.united (drop l.end l.runs) l.fn.run l.runs;
}

abbrev pub decreases-loop-end : goal.decreases-loop-end
decreases-loop-end l = length l.runs - l.end
