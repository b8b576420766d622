use Rattle.std.proofs.Common.{sym, ◌∙◌}
use Rattle.op_arena.proofs.Views.{len_held}
use Rattle.op_arena.proofs.arena.Arena.len.Goals as goal

pub returns-clause-value : goal.returns-clause-value
returns-clause-value g c = rw (← c.self.view_is) (c.self.invariant.counts_held ∙ sym (len_held c.self.inside.slots.items))
