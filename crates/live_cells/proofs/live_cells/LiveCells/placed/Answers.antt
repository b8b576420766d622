use Rattle.std.proofs.Common.{sym, ap, ◌∙◌}
use Rattle.std.specs.FinMap as map
use Rattle.general_lemmas.proofs.TruthTables.{truth}
use Rattle.dots.specs.Orders.{dot_cmp}
use Rattle.live_cells.specs.PlacedLists.{id_entries, is_placed}
use Rattle.live_cells.proofs.LiveMaps.{named}
use Rattle.live_cells.proofs.PlacedOrder.{placed_named}
use Rattle.live_cells.proofs.live_cells.LiveCells.placed.Goals as goal

pub returns-clause-dots : goal.returns-clause-dots
returns-clause-dots g c q =
    let s = c.self.inside.placed in
    ap (λ ds. is_placed ds q) c.placed.ensures.value
    ∙ placed_named s.dots (map.from_sorted (id_entries s.dots)) (sym (map.entries-from_sorted dot_cmp (id_entries s.dots) (truth _ c.self.invariant.placed.sorted))) q
    ∙ named s.dots s.held s.spent c.self.invariant.placed q ∙ ap (λ x. map.contains_key x.live q) c.self.view_is
