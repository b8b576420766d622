use Rattle.std.proofs.Common.{◌∙◌, ap}
use Rattle.op_arena.specs.Slots.{held_in, spent_in}
use Rattle.op_arena.proofs.Views.{held_empty, spent_empty}
use Rattle.op_arena.proofs.arena.Arena.new.Goals as goal

pub returns-clause-held : goal.returns-clause-held
returns-clause-held g c = ap held_in (λ i. (c.new.ensures i).items) ∙ held_empty

pub returns-clause-spent : goal.returns-clause-spent
returns-clause-spent g c = ap spent_in (λ i. (c.new.ensures i).items) ∙ spent_empty g.row.T.Denot
