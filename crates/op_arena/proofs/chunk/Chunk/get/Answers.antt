use Rattle.std.proofs.Common.{sym, ◌∙◌, ap, get_or, None, ◌-◌}
use Rattle.op_arena.specs.CellRows.{values}
use Rattle.op_arena.proofs.Filled.{get_or_laid, one_there}
use Rattle.op_arena.proofs.chunk.Chunk.get.Goals as goal

pub read-requires : goal.read-requires
read-requires g c =
    let row = c.self.inside.places.slots in let xs = values row in let fills = c.self.invariant.0 in
    let found = one_there xs c.args.index (rw (← c.self.view_is) at c.requires) in
    (found.0, ap (λ r. get_or r c.args.index None) fills.laid ∙ get_or_laid xs (c.self.inside.capacity - c.self.inside.len) c.args.index ∙ found.1)

pub returns : goal.returns
returns g c =
    let row = c.self.inside.places.slots in let xs = values row in let fills = c.self.invariant.0 in
    rw (← c.self.view_is) (sym (get_or_laid xs (c.self.inside.capacity - c.self.inside.len) c.args.index) ∙ ap (λ r. get_or r c.args.index None) (sym fills.laid) ∙ c.read.ensures)
