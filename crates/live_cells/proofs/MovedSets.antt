-- What is live, and which ids there are, once live dots were moved here of which none was live here.
use Rattle.std.proofs.Common.{◌≡◌, ◌≢◌, ℕ, ◌<◌, Bool, true, false, ◌||◌, ◌⊎◌, inl, inr, List, ◌++◌, length, get_or, map as each, Option, Some, None, is_some, refl, sym, ap, subst, ◌∙◌, arith, true≢false}
use Rattle.std.specs.FinMap as maps
use Rattle.std.specs.FinMap.Entries.{find}
use Rattle.std.specs.List.{list_any}
use Rattle.std.specs.List.Sorted.{IsPermutation, IsStrictlySortedBy}
use Rattle.std.specs.Option.{option_and_then, option_cmp, option_map, option_map_or, option_or}
use Rattle.std.specs.Ordering.{eq_by_cmp}
use Rattle.std.specs.declared.cmp.Ordering.TheVariants.{Equal}
use Rattle.std.proofs.Math.Bool.{or-false}
use Rattle.std.proofs.lemmas.List.{get_or-map, length-map, map-append}
use Rattle.std.proofs.lemmas.List.Elements.{All-append, All-weaker, filter_map-append}
use Rattle.std.proofs.lemmas.List.Folds.{list_any-append}
use Rattle.std.proofs.lemmas.List.Sorted.{All-permutation, list_any-IsPermutation}
use Rattle.dots.specs.Values.{Dot}
use Rattle.dots.specs.Orders.{dot_cmp, member_cmp}
use Rattle.dots.specs.declared.member.Member.{Member}
use Rattle.general_lemmas.proofs.Membership.{in_any}
use Rattle.general_lemmas.proofs.TruthTables.{equal_of}
use Rattle.op_arena.specs.Ids.{Id}
use Rattle.live_cells.specs.declared.live_dot.LiveDot.{LiveDot}
use Rattle.live_cells.specs.declared.placed.Placed.{Placed}
use Rattle.live_cells.specs.Index.{Rises, is_held, is_listed, listed_cmp, listing}
use Rattle.live_cells.specs.LiveLists.{holding, live_of}
use Rattle.live_cells.specs.Merges.{AreUntied}
use Rattle.live_cells.specs.Moves.{AreMoved, IsUnusedId}
use Rattle.live_cells.specs.PlacedLists.{id_entries, is_placed}
use Rattle.live_cells.specs.PlacedStates.{AreHeld, AreIndexed, IsPlaced, PlacedState, cells_at, cells_of, id_order, ids_of, listed_at, live_state}
use Rattle.live_cells.proofs.GivenItems.{given_alike, given_at, length_given, some_of}
use Rattle.live_cells.proofs.IdSteps.{look}
use Rattle.live_cells.proofs.Indexes.{entry, listed_exact}
use Rattle.live_cells.proofs.IndexLists.{listed_moved}
use Rattle.live_cells.proofs.ListedIds.{as_long, entry_there}
use Rattle.live_cells.proofs.LiveMaps.{get_ids_by, ids_by, its_cell, its_id, its_live, live_found, named}
use Rattle.live_cells.proofs.MemberOrder.{member_itself}
use Rattle.live_cells.proofs.MovedIndex.{rises_sorted, sorted_rises}
use Rattle.live_cells.proofs.CellsOfDots.{same_some}
use Rattle.live_cells.proofs.PlacedOrder.{placed_found}
use Rattle.live_cells.specs.LiveStates.{HaveGrown}
use Rattle.live_cells.specs.Holdings.{Holding}

-- the cell that a dot has by which something is live
pub record HasCell (s : PlacedState) (q : Dot) (h : Holding) : Type 0 where
  pub id : Id
  pub cell : LiveDot
  pub held : maps.get s.held id ≡ Some cell
  pub dot : cell.dot ≡ q
  pub is : holding cell ≡ h

pub dot_of : (o : Option LiveDot) (q : Dot) → option_map (λ c. c.dot) o ≡ Some q → (c : LiveDot) × (o ≡ Some c) × (c.dot ≡ q)
dot_of None q e = absurd (cc)
dot_of (Some c) q e = (c, refl, same_some c.dot q e)

pub cell_of_live : (s : PlacedState) → IsPlaced s → (q : Dot) (h : Holding) → maps.get (live_of (cells_of s)) q ≡ Some h → HasCell s q h
cell_of_live s a q h e = elim (look (maps.get (ids_by s.dots) q)) [
  | inl n ↦ absurd (let none = sym e ∙ live_found s.dots s.held s.spent a q ∙ ap (option_and_then (λ id. option_map holding (maps.get s.held id))) n in cc none)
  | inr i ↦
      let c = dot_of (maps.get s.held i.0) q (its_cell s.dots s.held s.spent a q i.0 i.1) in
      record {
        id = i.0;
        cell = c.0;
        held = c.1;
        dot = c.2;
        is = same_some (holding c.0) h (sym (its_live s.dots s.held s.spent a i.0 c.0 c.1) ∙ ap (maps.get (live_of (cells_of s))) c.2 ∙ e);
      }
]

-- each cell's id is in the index
pub in_index : (s : PlacedState) (ids : List Id) → AreIndexed s ids → (id : Id) (cell : LiveDot) → maps.get s.held id ≡ Some cell → (k : ℕ) × (k < length ids) × (get_or ids k id ≡ id)
in_index s ids x id cell e =
    let live = live_of (cells_of s) in
    let held : is_held live cell.member cell.dot ≡ true =
    ap (λ o. option_map_or (eq_by_cmp member_cmp cell.member) (option_map (λ h. h.0) o) false) (its_live s.dots s.held s.spent x.placed id cell e) ∙ member_itself cell.member in
    let found = in_any (eq_by_cmp listed_cmp (listing cell)) (listed_at s.held ids) (x.index.lists cell.member cell.dot ∙ held) in
    let same : listing cell ≡ found.0 = listed_exact (listing cell) found.0 (equal_of _ found.2) in
    let k = found.1.0 in
    let inside = found.1.1 in
    let within : k < length ids = omega (arith, inside, as_long s.held ids x.held) in
    let there = entry_there s.held ids x.held k id found.0 within ∙ ap Some (found.1.2 ∙ sym same) in
    let c = some_of (maps.get s.held (get_or ids k id)) (x.held k id within) in
    let dot : c.0.dot ≡ cell.dot = ap (λ l. l.dot) (same_some (listing c.0) (listing cell) (sym (ap (option_map listing) c.1) ∙ there)) in
    (k, within, same_some (get_or ids k id) id (sym (x.placed.alone (get_or ids k id) c.0 c.1) ∙ ap (λ d. find dot_cmp d (id_entries s.dots)) dot ∙ x.placed.alone id cell e))

-- live dots there, of which none is live here
module _ (s : PlacedState) (own : List Id) (x : AreIndexed s own) (t : PlacedState) (ids : List Id) (y : AreIndexed t ids)
    (apart : (q : Dot) → is_some (maps.get (live_of (cells_of t)) q) ≡ true → maps.get (live_of (cells_of s)) q ≡ None) where
  pub none_placed : (id : Id) (cell : LiveDot) → maps.get t.held id ≡ Some cell → is_placed s.dots cell.dot ≡ false
  none_placed id cell e =
      placed_found s.dots cell.dot ∙ ap is_some (sym (get_ids_by s.dots s.held s.spent x.placed cell.dot)) ∙ named s.dots s.held s.spent x.placed cell.dot
      ∙ ap is_some (apart cell.dot (ap is_some (its_live t.dots t.held t.spent y.placed id cell e)))

  -- are moved here
  module _ (u : PlacedState) (arrived : List Placed) (now : List Id) (m : AreMoved s.held s.spent t.held ids u.held arrived now) where
    own_held : AreHeld u.held own
    own_held = All-weaker (λ id. is_some (maps.get s.held id) ≡ true) (λ id. is_some (maps.get u.held id) ≡ true) (λ id h. let c = some_of (maps.get s.held id) h in ap is_some (m.kept id c.0 c.1)) own x.held

    own_cells : cells_at u.held own ≡ cells_at s.held own
    own_cells = given_alike (λ id. maps.get u.held id) (λ id. maps.get s.held id) own
        (All-weaker (λ id. is_some (maps.get s.held id) ≡ true) (λ id. maps.get u.held id ≡ maps.get s.held id) (λ id h. let c = some_of (maps.get s.held id) h in m.kept id c.0 c.1 ∙ sym c.1) own x.held)

    own_listed : listed_at u.held own ≡ listed_at s.held own
    own_listed = ap (each listing) own_cells

    now_listed : listed_at u.held now ≡ listed_at t.held ids
    now_listed = ap (each listing) m.cells

    pub now_count : length now ≡ length ids
    now_count = sym (length_given (λ id. maps.get u.held id) now m.held_now) ∙ ap length m.cells ∙ length_given (λ id. maps.get t.held id) ids y.held

    pub own_sorted : IsStrictlySortedBy (id_order u.held) own
    own_sorted = sorted_rises u.held own own_held (subst Rises (sym own_listed) x.index.rises)

    pub now_sorted : IsStrictlySortedBy (id_order u.held) now
    now_sorted = sorted_rises u.held now m.held_now (subst Rises (sym now_listed) y.index.rises)

    pub now_untied : AreUntied (id_order u.held) own now
    now_untied i j mine theirs e =
        let c = some_of (maps.get s.held i) (subst (λ id. is_some (maps.get s.held id) ≡ true) mine.2 (x.held mine.0 i mine.1)) in
        let k = theirs.0 in
        let p : Placed = record { dot = c.0.dot; id = j } in
        let count : length (ids_of arrived) ≡ length arrived = length-map arrived (λ a. a.id) in
        let listed = ap length m.listed in
        let inside = theirs.1 in
        let within : k < length arrived = omega (arith, inside, count, listed) in
        let id : (get_or arrived k p).id ≡ j = sym (get_or-map (λ a. a.id) arrived k p j within) ∙ ap (λ js. get_or js k j) m.listed ∙ theirs.2 in
        let d = dot_of (maps.get u.held (get_or arrived k p).id) (get_or arrived k p).dot (m.named k p within) in
        let from = m.from k p within in
        let tie : option_cmp listed_cmp (Some (listing d.0)) (Some (listing c.0)) ≡ Equal =
        (λ n. option_cmp listed_cmp (option_map listing ((sym d.1 ∙ ap (maps.get u.held) id) n)) (option_map listing (sym (m.kept i c.0 c.1) n))) ∙ e in
        let one : d.0.dot ≡ c.0.dot = ap (λ l. l.dot) (listed_exact (listing d.0) (listing c.0) tie) in
        let here : is_placed s.dots c.0.dot ≡ true = placed_found s.dots c.0.dot ∙ ap is_some (x.placed.alone i c.0 c.1) in
        true≢false (sym here ∙ ap (is_placed s.dots) (sym one ∙ d.2 ∙ sym from.is) ∙ none_placed from.id from.cell from.held)

    -- the moved cells are placed with those that were here
    module _ (v : IsPlaced u) where
      still_live : (q : Dot) (h : Holding) → maps.get (live_of (cells_of s)) q ≡ Some h → maps.get (live_of (cells_of u)) q ≡ Some h
      still_live q h e =
          let c = cell_of_live s x.placed q h e in
          ap (maps.get (live_of (cells_of u))) (sym c.dot) ∙ its_live u.dots u.held u.spent v c.id c.cell (m.kept c.id c.cell c.held) ∙ ap Some c.is

      now_live : (q : Dot) (h : Holding) → maps.get (live_of (cells_of t)) q ≡ Some h → maps.get (live_of (cells_of u)) q ≡ Some h
      now_live q h e =
          let c = cell_of_live t y.placed q h e in
          let i = in_index t ids y c.id c.cell c.held in
          let inside = i.1 in
          let within : i.0 < length now = omega (arith, inside, now_count) in
          let there : maps.get t.held c.id ≡ Some (get_or (cells_at t.held ids) i.0 c.cell) = ap (maps.get t.held) (sym i.2) ∙ given_at (λ id. maps.get t.held id) ids i.0 c.id c.cell y.held i.1 in
          let one : c.cell ≡ get_or (cells_at t.held ids) i.0 c.cell = same_some _ _ (sym c.held ∙ there) in
          let here : maps.get u.held (get_or now i.0 c.id) ≡ Some c.cell =
          given_at (λ id. maps.get u.held id) now i.0 c.id c.cell m.held_now within ∙ ap (λ cs. Some (get_or cs i.0 c.cell)) m.cells ∙ ap Some (sym one) in
          ap (maps.get (live_of (cells_of u))) (sym c.dot) ∙ its_live u.dots u.held u.spent v (get_or now i.0 c.id) c.cell here ∙ ap Some c.is

      -- an id here is one that was here, or was given
      came_from : (id : Id) (c : LiveDot) → maps.get u.held id ≡ Some c → maps.get s.held id ≡ None → IsUnusedId s.held s.spent id × (maps.get (live_of (cells_of t)) c.dot ≢ None)
      came_from id c e none = elim (m.alone id c e) [
        | inl was ↦ absurd (let n = sym was ∙ none in cc n)
        | inr came ↦
            let p : Placed = record { dot = c.dot; id = id } in
            let k = came.0 in
            let inside = came.1 in
            let count : length (ids_of arrived) ≡ length arrived = length-map arrived (λ a. a.id) in
            let listed = ap length m.listed in
            let within : k < length now = omega (arith, inside, count, listed) in
            let at : get_or now k id ≡ id = ap (λ js. get_or js k id) (sym m.listed) ∙ get_or-map (λ a. a.id) arrived k p id inside ∙ ap (λ a. a.id) came.2 in
            let from = m.from k p inside in (
              subst (IsUnusedId s.held s.spent) at (m.new_ids k id within),
              λ n. let some = sym (its_live t.dots t.held t.spent y.placed from.id from.cell from.held) ∙ ap (maps.get (live_of (cells_of t))) (from.is ∙ ap (λ a. a.dot) came.2) ∙ n in cc some,
            )
      ]

      pub come_live : (q : Dot) → maps.get (live_of (cells_of u)) q ≡ option_or (maps.get (live_of (cells_of s)) q) (maps.get (live_of (cells_of t)) q)
      come_live q = elim (look (maps.get (live_of (cells_of s)) q)) [
        | inr h ↦ still_live q h.0 h.1 ∙ ap (λ o. option_or o (maps.get (live_of (cells_of t)) q)) (sym h.1)
        | inl n ↦ elim (look (maps.get (live_of (cells_of t)) q)) [
          | inr h ↦ now_live q h.0 h.1 ∙ (λ k. option_or (sym n k) (sym h.1 k))
          | inl g ↦ neither n g (look (maps.get (live_of (cells_of u)) q)) ∙ (λ k. option_or (sym n k) (sym g k))
        ]
      ]
        where
          neither : maps.get (live_of (cells_of s)) q ≡ None → maps.get (live_of (cells_of t)) q ≡ None → (maps.get (live_of (cells_of u)) q ≡ None) ⊎ ((h : Holding) × (maps.get (live_of (cells_of u)) q ≡ Some h)) → maps.get (live_of (cells_of u)) q ≡ None
          neither n g (inl none) = none
          neither n g (inr h) =
              let c = cell_of_live u v q h.0 h.1 in
              absurd (elim (look (maps.get s.held c.id)) [
                | inl free ↦ (came_from c.id c.cell c.held free).1 (ap (maps.get (live_of (cells_of t))) c.dot ∙ g)
                | inr was ↦ (
                    let one = same_some was.0 c.cell (sym (m.kept c.id was.0 was.1) ∙ c.held) in
                    let some = sym (its_live s.dots s.held s.spent x.placed c.id was.0 was.1) ∙ ap (maps.get (live_of (cells_of s))) (ap (λ a. a.dot) one ∙ c.dot) ∙ n in cc some)
              ])

      pub come_grown : u.spent ≡ s.spent → (a b : ℕ) → HaveGrown (live_state s a) (live_state u b)
      come_grown spent a b = record {
        kept = λ q id e.
            let c = dot_of (maps.get s.held id) q (its_cell s.dots s.held s.spent x.placed q id e) in
            ap (maps.get (ids_by u.dots)) (sym c.2) ∙ its_id u.dots u.held u.spent v id c.0 (m.kept id c.0 c.1);
        new_ids = λ q id n e.
            let c = dot_of (maps.get u.held id) q (its_cell u.dots u.held u.spent v q id e) in
            elim (look (maps.get s.held id)) [
              | inl free ↦
                  let f = (came_from id c.0 c.1 free).0 in
                  record {
                    free = λ d k. let g = dot_of (maps.get s.held id) d (its_cell s.dots s.held s.spent x.placed d id k) in let none = sym g.1 ∙ f.free in cc none;
                    unspent = f.unspent;
                    lesser = f.lesser;
                  }
              | inr was ↦ absurd (
                  let one = same_some was.0 c.0 (sym (m.kept id was.0 was.1) ∙ c.1) in
                  let some = sym (its_id s.dots s.held s.spent x.placed id was.0 was.1) ∙ ap (maps.get (ids_by s.dots)) (ap (λ a. a.dot) one ∙ c.2) ∙ n in cc some)
            ];
        spent = spent;
      }

      -- the merged ids are the index
      module _ (merged : List Id) (same : IsPermutation (own ++ now) merged) (strict : IsStrictlySortedBy (id_order u.held) merged) where
        both_held : AreHeld u.held (own ++ now)
        both_held = All-append (λ id. is_some (maps.get u.held id) ≡ true) own now own_held m.held_now

        merged_held : AreHeld u.held merged
        merged_held = All-permutation (λ id. is_some (maps.get u.held id) ≡ true) (own ++ now) merged same both_held

        parts : listed_at u.held (own ++ now) ≡ listed_at s.held own ++ listed_at t.held ids
        parts = ap (each listing) (filter_map-append (λ id. maps.get u.held id) own now) ∙ map-append listing (cells_at u.held own) (cells_at u.held now) ∙ (λ k. own_listed k ++ now_listed k)

        lists : (a : Member) (d : Dot) → is_listed (listed_at u.held merged) a d ≡ is_held (live_of (cells_of u)) a d
        lists a d =
            sym (list_any-IsPermutation (eq_by_cmp listed_cmp (entry a d)) (listed_at u.held (own ++ now)) (listed_at u.held merged) (listed_moved u.held (own ++ now) merged both_held merged_held same))
            ∙ ap (list_any (eq_by_cmp listed_cmp (entry a d))) parts ∙ list_any-append (eq_by_cmp listed_cmp (entry a d)) (listed_at s.held own) (listed_at t.held ids)
            ∙ (λ k. x.index.lists a d k || y.index.lists a d k)
            ∙ split (maps.get (live_of (cells_of s)) d) (maps.get (live_of (cells_of t)) d) (apart d) ∙ ap test (sym (come_live d))
          where
            test : Option Holding → Bool
            test o = option_map_or (eq_by_cmp member_cmp a) (option_map (λ h. h.0) o) false

            split : (o p : Option Holding) → (is_some p ≡ true → o ≡ None) → (test o || test p) ≡ test (option_or o p)
            split None p f = refl
            split (Some h) None f = or-false (test (Some h))
            split (Some h) (Some g) f = absurd (let n = f refl in cc n)

        pub come_indexed : AreIndexed u merged
        come_indexed = record { placed = v; held = merged_held; index = record { rises = rises_sorted u.held merged merged_held strict; lists = lists } }
