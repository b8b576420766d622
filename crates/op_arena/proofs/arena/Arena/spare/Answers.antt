use Rattle.std.proofs.Common.{◌≡◌, sym, ◌∙◌, arith}
use Rattle.op_arena.specs.Cells.{cells_len, cells_retired}
use Rattle.op_arena.proofs.Views.{len_held, len_retired}
use Rattle.op_arena.proofs.arena.Arena.spare.Goals as goal

pub returns-clause-limit : goal.returns-clause-limit
returns-clause-limit g c =
    let a = c.self.inside in let ss = a.slots.items in
    let L : cells_len c.args.self.now ≡ a.held = rw (← c.self.view_is) (len_held ss ∙ sym c.self.invariant.counts_held) in
    let R : cells_retired g.row.LAST c.args.self.now ≡ a.retired = rw (← c.self.view_is) (len_retired g.row.LAST ss c.self.invariant.keeps ∙ sym c.self.invariant.counts_retired) in
    omega (arith, L, R, c.capacity.ensures.value, c.capacity.ensures.limit, c.self.invariant.total, c.self.invariant.within)
