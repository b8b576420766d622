use Rattle.std.proofs.Common.{◌≤◌, take}
use Rattle.std.specs.List.{All}
use Rattle.member_orset.specs.Gathering.{LiesPast}
use Rattle.member_orset.proofs.given_dots.GivenDots.piece.Given as goal

abbrev pub invariant-loop-dot : goal.invariant-loop-dot
invariant-loop-dot l = record {
  some : l.from.count ≤ l.end;
  within : l.end ≤ l.fn.last.count;
  none : All (LiesPast l.from l.end) (take l.dot-index l.those);
}
