-- The index of members by the order of its ids.
use Rattle.std.proofs.Common.{◌≡◌, ℕ, suc, ◌<◌, List, [], length, get_or, sym, ap, ◌∙◌, arith}
use Rattle.std.specs.Cmp.{IsTotalOrder}
use Rattle.std.specs.Cmp.Lexicographic.{options_total}
use Rattle.std.specs.FinMap as maps
use Rattle.std.specs.List.{IsDistinct}
use Rattle.std.specs.List.Sorted.{IsStrictlySortedBy}
use Rattle.std.specs.Option.{option_cmp, option_map}
use Rattle.std.specs.Ordering.{eq_by_cmp, is_lt}
use Rattle.std.proofs.lemmas.Cmp.{on_total}
use Rattle.std.proofs.lemmas.List.{get_or_default}
use Rattle.std.proofs.lemmas.Map.Keys.{IsDistinct-from_apart}
use Rattle.general_lemmas.proofs.TruthTables.{less_of}
use Rattle.op_arena.proofs.IdOrder.{ids_exact, ids_total}
use Rattle.op_arena.specs.Ids.{Id, id_cmp, id_of}
use Rattle.live_cells.specs.Index.{Listed, Rises, listed_cmp, listing}
use Rattle.live_cells.specs.PlacedStates.{AreHeld, CellMap, id_order, listed_at}
use Rattle.live_cells.proofs.Indexes.{entry, listed_exact, listed_total}
use Rattle.live_cells.proofs.ListedIds.{as_long, entry_there}
use Rattle.live_cells.proofs.MapSteps.{untied}
use Rattle.live_cells.proofs.Merging.{lies_before, rises_by}
use Rattle.live_cells.proofs.CellsOfDots.{same_some}
use Rattle.live_cells.proofs.Rising as rising

-- ids are in a total order by the entries of their cells
pub ids_ordered : (held : CellMap) → IsTotalOrder (id_order held)
ids_ordered held = on_total (λ id. option_map listing (maps.get held id)) (options_total listed_total)

module _ (held : CellMap) (ids : List Id) (a : AreHeld held ids) where
  abbrev none : Listed
  none = entry (record { queue = 0; interface = [] }) (record { site = 0; count = 0 })

  -- entries at two places lie as their ids do
  order_there : (i j : ℕ) (d : Id) → i < length ids → j < length ids → id_order held (get_or ids i d) (get_or ids j d) ≡ listed_cmp (get_or (listed_at held ids) i none) (get_or (listed_at held ids) j none)
  order_there i j d l m = λ k. option_cmp listed_cmp (entry_there held ids a i d none l k) (entry_there held ids a j d none m k)

  -- ids are sorted where their entries rise
  pub sorted_rises : Rises (listed_at held ids) → IsStrictlySortedBy (id_order held) ids
  sorted_rises r = rises_by (id_order held) (ids_ordered held) ids (λ i j d l m.
      order_there i j d (omega arith) m ∙ less_of _ (rising.earlier listed_cmp listed_total listed_exact (λ x. x) (λ x. tt) (listed_at held ids) i j none none r l (omega (arith, m, as_long held ids a))))

  -- the entries of sorted ids are sorted
  pub rises_sorted : IsStrictlySortedBy (id_order held) ids → Rises (listed_at held ids)
  rises_sorted s = rising.rise_steps listed_cmp listed_total listed_exact (λ x. x) (λ x. tt) (listed_at held ids) (λ k e l.
      let n = as_long held ids a in
      let within : suc k < length ids = omega (arith, l, n) in
      let d = id_of 0 0 in
      (λ i. is_lt (listed_cmp (get_or_default (listed_at held ids) k e none (omega arith) i) (get_or_default (listed_at held ids) (suc k) e none l i)))
      ∙ ap is_lt (sym (order_there k (suc k) d (omega arith) within) ∙ lies_before (id_order held) (ids_ordered held) ids k (suc k) d d s (omega arith) within))

  -- no two of the ids are equal
  pub ids_differ : Rises (listed_at held ids) → IsDistinct (eq_by_cmp id_cmp) ids
  ids_differ r = IsDistinct-from_apart (eq_by_cmp id_cmp) ids (λ i j d l m. untied id_cmp ids_total ids_exact (get_or ids i d) (get_or ids j d) (λ same.
      rising.keys_differ listed_cmp listed_total listed_exact (λ x. x) (λ x. tt) (listed_at held ids) i j none none r l (omega (arith, m, as_long held ids a))
      (same_some _ _ (sym (entry_there held ids a i d none (omega arith)) ∙ ap (λ q. option_map listing (maps.get held q)) same ∙ entry_there held ids a j d none m))))
