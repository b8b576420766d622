-- What was met is joined, and what is left can be.
use Rattle.std.proofs.Common.{◌≤◌, true}
use Rattle.std.specs.FinMap as map
use Rattle.member_orset.proofs.TakenCells.{Taken}
use Rattle.member_orset.proofs.joining.join_live.Given as goal

abbrev pub invariant-loop-dot : goal.invariant-loop-dot
invariant-loop-dot l = record {
  taken : Taken (λ q. true) l.fn.cells l.cells l.others.live l.dot-iterator;
  few : map.len l.cells.live ≤ map.len l.fn.cells.live;
  room : l.fn.cells.room ≤ l.cells.room;
}
