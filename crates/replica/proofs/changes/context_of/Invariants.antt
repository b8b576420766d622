use Rattle.std.proofs.Common.{◌≡◌, take}
use Rattle.std.specs.FinSet as set
use Rattle.replica.proofs.changes.context_of.Given as goal

-- the dots so far
abbrev pub invariant-loop-dot : goal.invariant-loop-dot
invariant-loop-dot l = l.context.dots ≡ set.from_list (take l.dot-index l.dots)
