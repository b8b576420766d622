use Rattle.std.proofs.Common.{◌≡◌, ◌≤◌, false}
use Rattle.tests_of_parts.proofs.links.streams.received.Given as goal

-- the source works, and no more items than calls were counted
abbrev pub invariant-calls : goal.invariant-calls
invariant-calls g l = (l.source.failed ≡ false) × (l.count ≤ l.counter)
