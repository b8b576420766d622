-- What was taken is joined, and what is left can be.
use Rattle.std.proofs.Common.{length}
use Rattle.std.specs.FinSet as set
use Rattle.member_orset.proofs.TakenCells.{Taken}
use Rattle.member_orset.proofs.joining.take_each.Given as goal

abbrev pub invariant-loop-cell : goal.invariant-loop-cell
invariant-loop-cell l = Taken (set.contains l.known.dots) l.fn.cells l.cells l.fn.others.live l.left

abbrev pub decreases-loop-cell : goal.decreases-loop-cell
decreases-loop-cell l = length l.left
