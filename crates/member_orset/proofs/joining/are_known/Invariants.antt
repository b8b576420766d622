-- All so far are known.
use Rattle.std.proofs.Common.{◌≡◌, true, take}
use Rattle.std.specs.List.{All}
use Rattle.std.specs.FinSet as set
use Rattle.member_orset.proofs.joining.are_known.Given as goal

abbrev pub invariant-loop-placed : goal.invariant-loop-placed
invariant-loop-placed l = All (λ p. set.contains l.known.dots p.dot ≡ true) (take l.placed-index l.dots)
