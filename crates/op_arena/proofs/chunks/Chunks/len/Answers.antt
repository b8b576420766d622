use Rattle.std.proofs.Common.{arith, sym}
use Rattle.op_arena.proofs.Laying.{length_within}
use Rattle.op_arena.proofs.chunks.Chunks.len.Goals as goal

pub returns-clause-value : goal.returns-clause-value
returns-clause-value g c = let s = c.self.inside in rw (← c.self.view_is) (sym (length_within s.len s.chunks.items c.self.invariant.0).0)

pub returns-clause-within : goal.returns-clause-within
returns-clause-within g c = let s = c.self.inside in rw (← c.self.view_is) (omega (arith, (length_within s.len s.chunks.items c.self.invariant.0).1, c.self.invariant.1))
