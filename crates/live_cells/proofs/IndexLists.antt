-- The index of members as any list of the placed ids that rises by their cells, and ids that were sorted so.
use Rattle.std.proofs.Common.{◌≡◌, suc, ◌+◌, ◌<◌, true, false, List, [], ◌∷◌, length, get_or, map as each, Option, Some, None, is_some, refl, sym, ap, ◌∙◌, subst, arith}
use Rattle.std.specs.Cmp.Lexicographic.{options_total}
use Rattle.std.specs.Cmp.{IsStrictWeakOrder}
use Rattle.std.specs.FinMap as maps
use Rattle.std.specs.List.{IsDistinct, cons_option}
use Rattle.std.specs.List.Sorted.{IsPermutation, IsSorted}
use Rattle.std.specs.Option.{option_cmp, option_map, option_map_or}
use Rattle.std.specs.Ordering.{eq_by_cmp, is_le, is_lt, ordering_reverse}
use Rattle.std.specs.declared.cmp.Ordering.{Ordering}
use Rattle.std.specs.declared.cmp.Ordering.TheVariants.{Less, Equal, Greater}
use Rattle.std.proofs.lemmas.Cmp.{eq_by_cmp_equiv}
use Rattle.std.proofs.lemmas.List.Elements.{All-head, All-tail}
use Rattle.std.proofs.lemmas.List.Sorted.{All-permutation, IsPermutation-map, list_any-IsPermutation, ranks_by}
use Rattle.std.proofs.lemmas.Map.Keys.{IsDistinct-IsPermutation, apart_from_distinct}
use Rattle.dots.specs.Values.{Dot}
use Rattle.dots.specs.Orders.{member_cmp}
use Rattle.dots.specs.declared.member.Member.{Member}
use Rattle.op_arena.specs.Ids.{Id, id_of}
use Rattle.live_cells.specs.declared.live_dot.LiveDot.{LiveDot}
use Rattle.live_cells.specs.Index.{Listed, Rises, is_held, is_listed, listed_cmp, listing}
use Rattle.live_cells.specs.LiveLists.{live_of}
use Rattle.live_cells.specs.PlacedStates.{AreHeld, AreIndexed, CellMap, IsPlaced, PlacedState, cells_at, cells_of, id_order, ids_of, listed_at}
use Rattle.live_cells.proofs.Indexes.{entry, listed_exact, listed_total}
use Rattle.live_cells.proofs.ListedIds.{as_long, entry_there}
use Rattle.live_cells.proofs.LiveMaps.{rise}
use Rattle.live_cells.proofs.MapSteps.{apart_by}
use Rattle.live_cells.proofs.CellsOfDots.{all_held}
use Rattle.live_cells.proofs.Relisted.{distinct, held_by}
use Rattle.live_cells.proofs.Rising as rising
use Rattle.live_cells.proofs.Views.{get_live_of}

-- ids are ordered by what has a weak order
pub ids_ranked : (held : CellMap) → IsStrictWeakOrder (λ id other. is_lt (id_order held id other))
ids_ranked held = ranks_by (options_total listed_total) (λ id. option_map listing (maps.get held id))

-- what doesn't lie after another is such that the other doesn't lie before it
pub not_before : (held : CellMap) (id other : Id) → is_le (id_order held id other) ≡ true → is_lt (id_order held other id) ≡ false
not_before held id other h = ap is_lt ((options_total listed_total).antisymm (option_map listing (maps.get held other)) (option_map listing (maps.get held id))) ∙ turned (id_order held id other) h
  where
    turned : (o : Ordering) → is_le o ≡ true → is_lt (ordering_reverse o) ≡ false
    turned Less h = refl
    turned Equal h = refl
    turned Greater h = absurd (cc h)

-- the entry of an id, where it has a cell
abbrev entry_of : CellMap → Id → Listed
entry_of held id = option_map_or listing (maps.get held id) (entry (record { queue = 0; interface = [] }) (record { site = 0; count = 0 }))

-- the entries of held ids are those of each id
listed_each : (held : CellMap) (ids : List Id) → AreHeld held ids → listed_at held ids ≡ each (entry_of held) ids
listed_each held [] a = refl
listed_each held (id ∷ ids) a =
    head (maps.get held id) (All-head (λ q. is_some (maps.get held q) ≡ true) id ids a) (listed_each held ids (All-tail (λ q. is_some (maps.get held q) ≡ true) id ids a))
  where
    head : (o : Option LiveDot) → is_some o ≡ true → listed_at held ids ≡ each (entry_of held) ids
        → each listing (cons_option o (cells_at held ids)) ≡ option_map_or listing o (entry (record { queue = 0; interface = [] }) (record { site = 0; count = 0 })) ∷ each (entry_of held) ids
    head None t r = absurd (cc t)
    head (Some c) t r = ap (λ ls. listing c ∷ ls) r

-- ids in another order have their entries in another order
pub listed_moved : (held : CellMap) (ids members : List Id) → AreHeld held ids → AreHeld held members → IsPermutation ids members → IsPermutation (listed_at held ids) (listed_at held members)
listed_moved held ids members a b h =
    subst (λ ls. IsPermutation ls (listed_at held members)) (sym (listed_each held ids a))
    (subst (IsPermutation (each (entry_of held) ids)) (sym (listed_each held members b)) (IsPermutation-map (entry_of held) ids members h))

-- the placed ids in any order
module _ (s : PlacedState) (members : List Id) (placed : IsPlaced s) (same : IsPermutation (ids_of s.dots) members) where
  abbrev listed : List Listed
  listed = listed_at s.held members

  pub held_moved : AreHeld s.held members
  held_moved = All-permutation (λ id. is_some (maps.get s.held id) ≡ true) (ids_of s.dots) members same (all_held s.dots s.held placed.there)

  moved : IsPermutation (listed_at s.held (ids_of s.dots)) listed
  moved = listed_moved s.held (ids_of s.dots) members (all_held s.dots s.held placed.there) held_moved same

  lists : (m : Member) (d : Dot) → is_listed listed m d ≡ is_held (live_of (cells_of s)) m d
  lists m d =
      sym (list_any-IsPermutation (eq_by_cmp listed_cmp (entry m d)) (listed_at s.held (ids_of s.dots)) listed moved)
      ∙ held_by (cells_of s) m d (rise s.dots s.held s.spent placed)
      ∙ ap (λ o. option_map_or (eq_by_cmp member_cmp m) (option_map (λ h. h.0) o) false) (sym (get_live_of (cells_of s) d (rise s.dots s.held s.spent placed)))

  -- are the index where they rise
  pub indexed_by : Rises listed → AreIndexed s members
  indexed_by rises = record { placed = placed; held = held_moved; index = record { rises = rises; lists = lists } }

  all_differ : IsDistinct (eq_by_cmp listed_cmp) listed
  all_differ =
      IsDistinct-IsPermutation (eq_by_cmp listed_cmp) (eq_by_cmp_equiv listed_total).symm (listed_at s.held (ids_of s.dots)) listed moved
      (distinct (cells_of s) (rise s.dots s.held s.spent placed))

  -- the entries of ids are sorted if the ids are
  pub rises_sorted : IsSorted (id_order s.held) members → Rises listed
  rises_sorted sorted = rising.rise_steps listed_cmp listed_total listed_exact (λ l. l) (λ l. tt) listed (λ k l w.
      let n = as_long s.held members held_moved in
      let m : k + 1 < length members = omega (arith, w, n) in
      let next : k + 1 ≡ suc k = omega arith in
      let before : k < length members = omega (arith, w, n) in
      let id = id_of 0 0 in
      let not_less : is_lt (listed_cmp (get_or listed (k + 1) l) (get_or listed k l)) ≡ false =
      (λ i. is_lt (option_cmp listed_cmp (sym (entry_there s.held members held_moved (k + 1) id l m) i) (sym (entry_there s.held members held_moved k id l before) i))) ∙ sorted k id (omega arith) m in
      let other = apart_by listed_cmp listed_total listed_exact (get_or listed k l) (get_or listed (k + 1) l) (apart_from_distinct (eq_by_cmp listed_cmp) listed k (k + 1) l all_differ (omega arith) (omega (arith, w))) in
      subst (λ j. is_lt (listed_cmp (get_or listed k l) (get_or listed j l)) ≡ true) next
      (rising.after listed_cmp listed_total listed_exact (get_or listed (k + 1) l) (get_or listed k l) (λ e. other (sym e)) not_less))
