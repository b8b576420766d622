use Rattle.std.proofs.Common.{Some, lit<, sym, ap, ◌∙◌}
use Rattle.std.specs.FinMap as map
use Rattle.op_arena.specs.Ids.{id_of}
use Rattle.live_cells.specs.declared.placed.Placed.{Placed}
use Rattle.live_cells.proofs.LiveMaps.{id_here, no_id, within_dots}
use Rattle.live_cells.proofs.live_cells.LiveCells.id.Goals as goal

pub id_at-requires : goal.id_at-requires
id_at-requires g c =
    let s = c.self.inside.placed in
    (lit< tt, within_dots s.dots s.held s.spent c.self.invariant.placed c.args.dot c.in-Ok.place c.in-Ok.ensures.found)

pub returns-in-Ok : goal.returns-in-Ok
returns-in-Ok g c =
    let s = c.self.inside.placed in
    let none : Placed = record { dot = c.args.dot; id = id_of 0 0 } in
    ap Some (c.id_at.ensures none) ∙ sym (id_here s.dots s.held s.spent c.self.invariant.placed c.args.dot c.in-Ok.place none c.in-Ok.ensures.found) ∙ ap (λ x. map.get x.ids c.args.dot) c.self.view_is

pub returns-in-Err : goal.returns-in-Err
returns-in-Err g c =
    let s = c.self.inside.placed in
    sym (no_id s.dots s.held s.spent c.self.invariant.placed c.args.dot c.in-Err.field-0 c.in-Err.ensures.missed) ∙ ap (λ x. map.get x.ids c.args.dot) c.self.view_is
