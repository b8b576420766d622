use Rattle.std.proofs.Common.{length, ap, ◌∙◌, arith}
use Rattle.std.specs.FinMap as map
use Rattle.dots.specs.Orders.{dot_cmp}
use Rattle.live_cells.specs.LiveLists.{live_of}
use Rattle.live_cells.specs.PlacedLists.{id_entries}
use Rattle.live_cells.specs.PlacedStates.{cells_at, ids_of}
use Rattle.live_cells.proofs.RisingMaps.{map_of_nil}
use Rattle.live_cells.proofs.Views.{live_of_nil}
use Rattle.live_cells.proofs.cells_builder.CellsBuilder.new.Goals as goal

pub invariant_of-result : goal.invariant_of-result
invariant_of-result g c =
    let none = ap length c.new.ensures.dots in
    record { placed = c.new.ensures.valid; unspent = c.new.ensures.spent; empty = c.new-2.ensures.items; room = omega arith }

pub returns-clause-live : goal.returns-clause-live
returns-clause-live g c = ap (λ ds. live_of (cells_at c.new.result.held (ids_of ds))) c.new.ensures.dots ∙ live_of_nil

pub returns-clause-ids : goal.returns-clause-ids
returns-clause-ids g c = ap (λ ds. map.from_sorted (id_entries ds)) c.new.ensures.dots ∙ map_of_nil dot_cmp
