use Rattle.std.proofs.Common.{is_some, ap, ◌∙◌, ◌≡◌, true, subst, sym}
use Rattle.std.specs.FinMap as map
use Rattle.std.specs.List.{All}
use Rattle.std.proofs.lemmas.List.Elements.{All-nil}
use Rattle.dots.specs.Orders.{dot_cmp}
use Rattle.live_cells.specs.LiveLists.{live_of}
use Rattle.live_cells.specs.PlacedStates.{cells_at, ids_of, listed_at}
use Rattle.live_cells.specs.PlacedLists.{id_entries}
use Rattle.live_cells.proofs.Relisted.{nothing_listed}
use Rattle.live_cells.proofs.RisingMaps.{map_of_nil}
use Rattle.live_cells.proofs.Views.{live_of_nil}
use Rattle.live_cells.proofs.live_cells.LiveCells.new.Goals as goal

pub invariant_of-result : goal.invariant_of-result
invariant_of-result g c =
    let s = c.new.result in
    record {
      placed = c.new.ensures.valid;
      held = subst (All (λ id. is_some (map.get s.held id) ≡ true)) (sym c.new-2.ensures.items) (All-nil (λ id. is_some (map.get s.held id) ≡ true));
      index = (nothing_listed (cells_at s.held (ids_of s.dots)) (listed_at s.held c.new-2.result.items) (ap (λ ds. cells_at s.held (ids_of ds)) c.new.ensures.dots) (ap (listed_at s.held) c.new-2.ensures.items));
    }

pub returns-clause-live : goal.returns-clause-live
returns-clause-live g c = ap (λ ds. live_of (cells_at c.new.result.held (ids_of ds))) c.new.ensures.dots ∙ live_of_nil

pub returns-clause-ids : goal.returns-clause-ids
returns-clause-ids g c = ap (λ ds. map.from_sorted (id_entries ds)) c.new.ensures.dots ∙ map_of_nil dot_cmp
