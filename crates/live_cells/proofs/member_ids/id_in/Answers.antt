use Rattle.std.proofs.Common.{◌≡◌, Some, get_or, lit<, sym, ap, ◌∙◌}
use Rattle.std.specs.FinMap as map
use Rattle.op_arena.specs.Ids.{id_of}
use Rattle.live_cells.specs.declared.live_dot.LiveDot.{LiveDot}
use Rattle.live_cells.specs.declared.placed.Placed.{Placed}
use Rattle.live_cells.specs.LiveLists.{holding, live_of}
use Rattle.live_cells.specs.PlacedStates.{cells_of}
use Rattle.live_cells.proofs.Changes.{gap_live}
use Rattle.live_cells.proofs.LiveMaps.{its_live, live_here, rise, within_dots}
use Rattle.live_cells.proofs.CellsOfDots.{cell_there, same_some}
use Rattle.live_cells.proofs.member_ids.id_in.Goals as goal

-- cells of one dot that hold the same are one
one_cell : (a b : LiveDot) → a.dot ≡ b.dot → holding a ≡ holding b → a ≡ b
one_cell a b d h = λ k. record { dot = d k; member = (h k).0; fields = (h k).1 }

pub id_at-requires : goal.id_at-requires
id_at-requires g c =
    let t = c.args.copy.now in
    (lit< tt, within_dots t.dots t.held t.spent c.find_from.ensures.valid c.in_ok-cell.cell.now.dot c.in-Ok.place c.in-Ok.ensures.found)

pub returns-in-Ok : goal.returns-in-Ok
returns-in-Ok g c cell e =
    let s = c.args.index.cells.now in
    let t = c.args.copy.now in
    let own = c.in_ok-cell.cell.now in
    let i = c.in-Ok.place in
    let at = c.in-Ok.ensures.found in
    let none : Placed = record { dot = own.dot; id = id_of 0 0 } in
    let there = get_or (cells_of t) i own in
    let held : holding there ≡ holding own = same_some _ _ (
    sym (live_here t.dots t.held t.spent c.find_from.ensures.valid own.dot i own at) ∙ ap (λ cs. map.get (live_of cs) own.dot) c.requires
    ∙ its_live s.dots s.held s.spent c.args.index.indexed.placed c.args.id own (sym c.in_ok-cell.ensures)) in
    ap (map.get t.held) (c.id_at.ensures none) ∙ cell_there t.dots t.held c.find_from.ensures.valid.there i none own (within_dots t.dots t.held t.spent c.find_from.ensures.valid own.dot i at)
    ∙ ap Some (one_cell there own (sym (at.here own)) held) ∙ c.in_ok-cell.ensures ∙ e

pub returns-in-Err : goal.returns-in-Err
returns-in-Err g c cell e =
    let s = c.args.index.cells.now in
    let t = c.args.copy.now in
    let own = c.in_ok-cell.cell.now in
    let none = sym (gap_live (cells_of t) own.dot c.in-Err.field-0 (rise t.dots t.held t.spent c.find_from.ensures.valid) c.in-Err.ensures.missed) ∙ ap (λ cs. map.get (live_of cs) own.dot) c.requires
    ∙ its_live s.dots s.held s.spent c.args.index.indexed.placed c.args.id own (sym c.in_ok-cell.ensures) in
    cc
