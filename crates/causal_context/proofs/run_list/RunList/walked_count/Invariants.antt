-- The runs counted so far, with the one at hand, and what is left make the union.
use Rattle.std.proofs.Common.{◌+◌, ◌-◌, ◌≤◌, length, drop}
use Rattle.causal_context.proofs.Merging.{IsCounting}
use Rattle.causal_context.proofs.run_list.RunList.walked_count.Given as goal

abbrev pub invariant-loop-next : goal.invariant-loop-next
invariant-loop-next l = record {
  reached : l.own ≤ length l.ours;
  passed : l.theirs ≤ length l.others;
  few : l.count ≤ l.own + l.theirs;
  counting : IsCounting l.count l.current (drop l.own l.ours) (drop l.theirs l.others) l.ours l.others;
}

abbrev pub decreases-loop-next : goal.decreases-loop-next
decreases-loop-next l = (length l.ours + length l.others) - (l.own + l.theirs)
