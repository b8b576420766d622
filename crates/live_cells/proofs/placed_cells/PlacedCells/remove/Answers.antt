use Rattle.std.proofs.Common.{◌<◌, length, get_or, cond, is_some, sym, ap, subst, ◌∙◌}
use Rattle.std.specs.FinMap as map
use Rattle.std.specs.FinSet as set
use Rattle.std.specs.List.{remove}
use Rattle.live_cells.specs.PlacedStates.{cells_at, cells_of, ids_of}
use Rattle.live_cells.proofs.PlacedChanges.{less_cells, less_placed, same_placed}
use Rattle.live_cells.proofs.CellsOfDots.{cell_there, same_some}
use Rattle.live_cells.proofs.placed_cells.PlacedCells.remove.Goals as goal

pub invariant_of-self : goal.invariant_of-self
invariant_of-self g c =
    let s = c.self.inside in
    let e = c.remove-placed.result in
    let within : c.args.place < length s.dots.items = subst (λ x. c.args.place < length x.dots) (sym c.self.view_is) c.requires in
    same_placed _ _ _ _ _ _ c.remove-placed.ensures.items (c.take.ensures.held ∙ ap (λ p. map.remove s.cells.held p.id) (c.remove-placed.ensures.value e))
    (c.take.ensures.spent ∙ ap (λ o. cond (is_some o) (set.insert s.cells.spent e.id) s.cells.spent) c.unwrap.ensures ∙ ap (λ p. set.insert s.cells.spent p.id) (c.remove-placed.ensures.value e))
    (less_placed s.dots.items s.cells.held s.cells.spent c.self.invariant c.args.place e within)

pub returns-clause-value : goal.returns-clause-value
returns-clause-value g c d =
    let s = c.self.inside in
    let e = c.remove-placed.result in
    let within : c.args.place < length s.dots.items = subst (λ x. c.args.place < length x.dots) (sym c.self.view_is) c.requires in
    same_some _ _ (sym c.unwrap.ensures ∙ c.take.ensures.value ∙ ap (λ p. map.get s.cells.held p.id) (c.remove-placed.ensures.value e) ∙ cell_there s.dots.items s.cells.held c.self.invariant.there c.args.place e d within)
    ∙ ap (λ x. get_or (cells_of x) c.args.place d) c.self.view_is

pub returns-clause-cells : goal.returns-clause-cells
returns-clause-cells g c =
    let s = c.self.inside in
    let e = c.remove-placed.result in
    let within : c.args.place < length s.dots.items = subst (λ x. c.args.place < length x.dots) (sym c.self.view_is) c.requires in
    (λ k. cells_at ((c.take.ensures.held ∙ ap (λ p. map.remove s.cells.held p.id) (c.remove-placed.ensures.value e)) k) (ids_of (c.remove-placed.ensures.items k)))
    ∙ less_cells s.dots.items s.cells.held s.cells.spent c.self.invariant c.args.place e within
    ∙ ap (λ x. remove (cells_of x) c.args.place) c.self.view_is

pub returns-clause-valid : goal.returns-clause-valid
returns-clause-valid g c = invariant_of-self g c
