use Rattle.std.proofs.Common.{◌≡◌, refl, sym, ◌∙◌, arith}
use Rattle.op_arena.specs.Cells.{cells_len, cells_retired}
use Rattle.op_arena.proofs.Views.{len_held, len_retired}
use Rattle.op_arena.proofs.arena.Arena.reserve.Goals.{in-Ok, in-Err}
use Rattle.op_arena.proofs.arena.Arena.reserve.Goals as goal

pub returns-then-wanted-used-clause-full : goal.returns-then-wanted-used-clause-full
returns-then-wanted-used-clause-full g c =
    let a = c.self.inside in let ss = a.slots.items in
    let L : cells_len c.args.self.now ≡ a.held = rw (← c.self.view_is) (len_held ss ∙ sym c.self.invariant.counts_held) in
    let R : cells_retired g.row.LAST c.args.self.now ≡ a.retired = rw (← c.self.view_is) (len_retired g.row.LAST ss c.self.invariant.keeps ∙ sym c.self.invariant.counts_retired) in
    (λ e. omega (arith, L, R, c.if-wanted-used.true, c.self.invariant.total, c.self.invariant.within, c.self.invariant.limit), λ lt. refl)

pub returns-clause-full : goal.returns-clause-full
returns-clause-full g c =
    let a = c.self.inside in let ss = a.slots.items in
    let L : cells_len c.args.self.now ≡ a.held = rw (← c.self.view_is) (len_held ss ∙ sym c.self.invariant.counts_held) in
    let R : cells_retired g.row.LAST c.args.self.now ≡ a.retired = rw (← c.self.view_is) (len_retired g.row.LAST ss c.self.invariant.keeps ∙ sym c.self.invariant.counts_retired) in (
      λ e. elim c.match-reserve.branch [ in-Ok w ↦ let r = w.result-is in cc | in-Err w ↦ let r = w.result-is in cc ],
      λ lt. absurd (omega (arith, L, R, lt, c.if-wanted-used.false, c.self.invariant.total, c.self.invariant.within, c.self.invariant.limit)),
    )
