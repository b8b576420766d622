use Rattle.std.proofs.Common.{◌<◌, [], length, get_or, set, lit<, sym, ap, subst, ◌∙◌}
use Rattle.std.specs.FinMap as map
use Rattle.operations.specs.Conditions.{FieldsAgree}
use Rattle.std.proofs.lemmas.List.{get_or_default}
use Rattle.live_cells.specs.declared.live_dot.LiveDot.{LiveDot}
use Rattle.live_cells.specs.PlacedStates.{ArePlaced, cells_at, cells_of, ids_of, joined_with}
use Rattle.live_cells.proofs.PlacedChanges.{changed_cells, changed_placed}
use Rattle.live_cells.proofs.CellsOfDots.{cell_there, dot_there, same_some}
use Rattle.live_cells.proofs.placed_cells.PlacedCells.join_fields.Goals as goal

pub join_held-requires : goal.join_held-requires
join_held-requires g c =
    let s = c.self.inside in
    let x = c.index-as_slice-place.result in
    let x_is = ap (λ ds. get_or ds c.args.place x) c.as_slice.ensures in
    let within : c.args.place < length s.dots.items = subst (λ y. c.args.place < length y.dots) (sym c.self.view_is) c.requires.within in (
      lit< tt,
      λ cell e. subst (λ y. FieldsAgree y.fields c.args.fields.now)
          (sym (same_some _ _ (sym e ∙ ap (λ p. map.get s.cells.held p.id) x_is ∙ cell_there s.dots.items s.cells.held c.self.invariant.there c.args.place x cell within) ∙ ap (λ y. get_or (cells_of y) c.args.place cell) c.self.view_is))
          (c.requires.agree cell),
    )

pub invariant_of-self : goal.invariant_of-self
invariant_of-self g c =
    let s = c.self.inside in
    let x = c.index-as_slice-place.result in
    let x_is = ap (λ ds. get_or ds c.args.place x) c.as_slice.ensures in
    let within : c.args.place < length s.dots.items = subst (λ y. c.args.place < length y.dots) (sym c.self.view_is) c.requires.within in
    let none : LiveDot = record { dot = x.dot; member = record { queue = 0; interface = [] }; fields = c.args.fields.now } in
    let cell = get_or (cells_at s.cells.held (ids_of s.dots.items)) c.args.place none in
    let here = ap (λ p. map.get s.cells.held p.id) x_is ∙ cell_there s.dots.items s.cells.held c.self.invariant.there c.args.place x none within in
    subst (λ (X : Type 0). X)
    (λ k. ArePlaced s.dots.items (sym (c.join_held.ensures.held cell here ∙ ap (λ p. map.insert s.cells.held p.id (joined_with cell c.args.fields.now)) x_is) k) (sym c.join_held.ensures.spent k))
    (changed_placed s.dots.items s.cells.held s.cells.spent c.self.invariant c.args.place x within (joined_with cell c.args.fields.now) (dot_there s.dots.items s.cells.held c.self.invariant.there c.args.place x none within))

pub returns-clause-held : goal.returns-clause-held
returns-clause-held g c p d =
    let s = c.self.inside in
    let x = c.index-as_slice-place.result in
    let x_is = ap (λ ds. get_or ds c.args.place x) c.as_slice.ensures in
    let within : c.args.place < length s.dots.items = subst (λ y. c.args.place < length y.dots) (sym c.self.view_is) c.requires.within in
    let cell = get_or (cells_at s.cells.held (ids_of s.dots.items)) c.args.place d in
    let here = ap (λ p. map.get s.cells.held p.id) x_is ∙ cell_there s.dots.items s.cells.held c.self.invariant.there c.args.place x d within in
    c.join_held.ensures.held cell here
    ∙ ap (λ p. map.insert s.cells.held p.id (joined_with cell c.args.fields.now)) (x_is ∙ get_or_default s.dots.items c.args.place x p within)
    ∙ ap (λ y. map.insert y.held (get_or y.dots c.args.place p).id (joined_with (get_or (cells_of y) c.args.place d) c.args.fields.now)) c.self.view_is

pub returns-clause-cells : goal.returns-clause-cells
returns-clause-cells g c d =
    let s = c.self.inside in
    let x = c.index-as_slice-place.result in
    let x_is = ap (λ ds. get_or ds c.args.place x) c.as_slice.ensures in
    let within : c.args.place < length s.dots.items = subst (λ y. c.args.place < length y.dots) (sym c.self.view_is) c.requires.within in
    let cell = get_or (cells_at s.cells.held (ids_of s.dots.items)) c.args.place d in
    let here = ap (λ p. map.get s.cells.held p.id) x_is ∙ cell_there s.dots.items s.cells.held c.self.invariant.there c.args.place x d within in
    ap (λ m. cells_at m (ids_of s.dots.items)) (c.join_held.ensures.held cell here ∙ ap (λ p. map.insert s.cells.held p.id (joined_with cell c.args.fields.now)) x_is)
    ∙ changed_cells s.dots.items s.cells.held s.cells.spent c.self.invariant c.args.place x within (joined_with cell c.args.fields.now) (dot_there s.dots.items s.cells.held c.self.invariant.there c.args.place x d within)
    ∙ ap (λ y. set (cells_of y) c.args.place (joined_with (get_or (cells_of y) c.args.place d) c.args.fields.now)) c.self.view_is

pub returns-clause-valid : goal.returns-clause-valid
returns-clause-valid g c = invariant_of-self g c
