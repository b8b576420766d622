use Rattle.std.proofs.Common.{arith, length}
use Rattle.op_arena.proofs.Laying.{total_limit}
use Rattle.op_arena.proofs.chunks.Chunks.capacity.Goals as goal

pub returns-clause-limit : goal.returns-clause-limit
returns-clause-limit g c = omega (arith, c.self.invariant.1, total_limit (length c.self.inside.chunks.items) c.self.invariant.2)
