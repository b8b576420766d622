-- What is written, the run at hand and what is left make the union.
use Rattle.std.proofs.Common.{◌+◌, ◌-◌, ◌≤◌, length, take, drop}
use Rattle.std.specs.List.{All}
use Rattle.causal_context.specs.Contexts.{IsRunWithinLimits}
use Rattle.causal_context.proofs.Merging.{IsMerging}
use Rattle.causal_context.proofs.merge.merge.Given as goal

abbrev pub invariant-loop-next : goal.invariant-loop-next
invariant-loop-next l = record {
  free : length l.others ≤ l.own;
  reached : l.own ≤ length l.places;
  passed : l.theirs ≤ length l.others;
  room : l.written + 1 + length l.others ≤ l.own + l.theirs;
  left : All IsRunWithinLimits (drop l.own l.places);
  merging : IsMerging (take l.written l.places) l.current (drop l.own l.places) (drop l.theirs l.others) (drop (length l.others) l.fn.places) l.others;
}

abbrev pub decreases-loop-next : goal.decreases-loop-next
decreases-loop-next l = (length l.places + length l.others) - (l.own + l.theirs)
