use Rattle.std.proofs.Common.{◌≡◌, ◌<◌, true, length, get_or, Bor, Option, Some, None, is_some, refl, sym, ap, subst, ◌∙◌}
use Rattle.std.specs.FinMap as map
use Rattle.std.specs.Option.{option_copied}
use Rattle.live_cells.specs.declared.live_dot.LiveDot.{LiveDot}
use Rattle.live_cells.specs.PlacedStates.{cells_of}
use Rattle.live_cells.proofs.CellsOfDots.{cell_there, same_some, some_there}
use Rattle.live_cells.proofs.placed_cells.PlacedCells.cell_at.Goals as goal

some_copied : (o : Option (Bor LiveDot)) → is_some (option_copied o) ≡ true → is_some o ≡ true
some_copied None e = absurd (cc)
some_copied (Some x) e = refl

pub unwrap-requires : goal.unwrap-requires
unwrap-requires g c =
    let s = c.self.inside in
    let x = c.index-as_slice-place.result in
    let x_is = ap (λ ds. get_or ds c.args.place x) c.as_slice.ensures in
    let within : c.args.place < length s.dots.items = subst (λ y. c.args.place < length y.dots) (sym c.self.view_is) c.requires in
    some_copied c.get.result (ap is_some (c.get.ensures.value ∙ ap (λ p. map.get s.cells.held p.id) x_is) ∙ some_there _ _ (c.self.invariant.there c.args.place x within))

pub returns : goal.returns
returns g c d =
    let s = c.self.inside in
    let x = c.index-as_slice-place.result in
    let x_is = ap (λ ds. get_or ds c.args.place x) c.as_slice.ensures in
    let within : c.args.place < length s.dots.items = subst (λ y. c.args.place < length y.dots) (sym c.self.view_is) c.requires in
    same_some _ _ (sym (ap option_copied c.unwrap.ensures) ∙ c.get.ensures.value ∙ ap (λ p. map.get s.cells.held p.id) x_is ∙ cell_there s.dots.items s.cells.held c.self.invariant.there c.args.place x d within)
    ∙ ap (λ y. get_or (cells_of y) c.args.place d) c.self.view_is
