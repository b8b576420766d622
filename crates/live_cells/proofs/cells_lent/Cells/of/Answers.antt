use Rattle.std.proofs.Common.{sym, subst}
use Rattle.live_cells.specs.PlacedStates.{AreHeld, ids_of}
use Rattle.live_cells.proofs.CellsOfDots.{all_held}
use Rattle.live_cells.proofs.cells_lent.Cells.of.Goals as goal

pub invariant_of-result : goal.invariant_of-result
invariant_of-result c =
    let s = c.args.cells.now in
    subst (λ ds. AreHeld s.held (ids_of ds)) (sym c.placed.ensures.value) (all_held s.dots s.held c.placed.ensures.valid.there)
