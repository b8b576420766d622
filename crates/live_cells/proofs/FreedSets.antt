-- What is live, and which ids there are, once dots are live no more, all at once.
use Rattle.std.proofs.Common.{◌≡◌, ℕ, ◌+◌, ◌≤◌, ◌<◌, Bool, true, false, ◌⊎◌, inl, inr, List, length, get_or, Option, Some, None, is_some, refl, sym, ap, ◌∙◌, arith, true≢false}
use Rattle.std.specs.Prelude.{filter, if◌then◌else◌}
use Rattle.std.specs.Cmp.{both_ways}
use Rattle.std.specs.FinMap as maps
use Rattle.std.specs.List.Sorted.{IsStrictlySortedBy}
use Rattle.std.specs.Option.{option_and_then, option_cmp, option_map, option_map_or}
use Rattle.std.specs.Ordering.{eq_by_cmp}
use Rattle.std.proofs.lemmas.List.Elements.{Contains-get_or}
use Rattle.std.proofs.lemmas.List.Folds.{list_any_at}
use Rattle.std.proofs.lemmas.List.Kept.{IsStrictlySortedBy-filter}
use Rattle.dots.specs.Values.{Dot}
use Rattle.dots.specs.Orders.{member_cmp}
use Rattle.dots.specs.declared.member.Member.{Member}
use Rattle.dots.proofs.MemberOrder.{exact_members}
use Rattle.general_lemmas.proofs.Filters.{filter_has, passes}
use Rattle.general_lemmas.proofs.Membership.{in_any}
use Rattle.general_lemmas.proofs.TruthTables.{equal_of}
use Rattle.op_arena.specs.Ids.{Id}
use Rattle.live_cells.specs.declared.live_dot.LiveDot.{LiveDot}
use Rattle.live_cells.specs.declared.placed.Placed.{Placed}
use Rattle.live_cells.specs.CellIds.{IdsFollow}
use Rattle.live_cells.specs.Freed.{AreChosen, AreFreed}
use Rattle.live_cells.specs.Index.{is_held, is_listed, listed_cmp, listing}
use Rattle.live_cells.specs.LiveLists.{holding, live_of}
use Rattle.live_cells.specs.PlacedStates.{AreHeld, AreIndexed, IsPlaced, PlacedState, cells_of, id_order, listed_at, live_state}
use Rattle.live_cells.proofs.GivenItems.{some_of}
use Rattle.live_cells.proofs.IdSteps.{look}
use Rattle.live_cells.proofs.Indexes.{entry, listed_exact, listed_total}
use Rattle.live_cells.proofs.ListedIds.{as_long, entry_there}
use Rattle.live_cells.proofs.LiveMaps.{ids_by, its_cell, its_id, its_live, len_live, live_found}
use Rattle.live_cells.proofs.MemberOrder.{member_itself}
use Rattle.live_cells.proofs.Merging.{lies_before, rises_by}
use Rattle.live_cells.proofs.MovedCells.{found_in}
use Rattle.live_cells.proofs.MovedIndex.{ids_ordered, rises_sorted, sorted_rises}
use Rattle.live_cells.proofs.MovedSets.{cell_of_live, dot_of, in_index}
use Rattle.live_cells.proofs.CellsOfDots.{same_some}
use Rattle.live_cells.proofs.Rising as rising
use Rattle.live_cells.specs.LiveStates.{IsThinned}

module _ (s : PlacedState) (own : List Id) (x : AreIndexed s own) (u : PlacedState) (f : AreFreed s.dots s.held s.spent u.held u.spent) (v : IsPlaced u) where
  abbrev is_kept : Id → Bool
  is_kept id = maps.contains_key u.held id

  abbrev kept : List Id
  kept = filter is_kept own

  kept_held : AreHeld u.held kept
  kept_held k d l = passes is_kept own (get_or kept k d) (Contains-get_or kept k d l)

  same_cell : (id : Id) → is_kept id ≡ true → maps.get u.held id ≡ maps.get s.held id
  same_cell id h = let c = some_of (maps.get u.held id) h in c.1 ∙ sym (f.was id c.0 c.1)

  kept_sorted : IsStrictlySortedBy (id_order u.held) kept
  kept_sorted =
      let sorted = IsStrictlySortedBy-filter (id_order s.held) is_kept own (sorted_rises s.held own x.held x.index.rises) in
      rises_by (id_order u.held) (ids_ordered u.held) kept (λ i j d l m.
      (λ k. option_cmp listed_cmp (option_map listing (same_cell (get_or kept i d) (kept_held i d (omega arith)) k)) (option_map listing (same_cell (get_or kept j d) (kept_held j d m) k)))
      ∙ lies_before (id_order s.held) (ids_ordered s.held) kept i j d d sorted l m)

  listed_held : (a : Member) (d : Dot) → is_listed (listed_at u.held kept) a d ≡ true → is_held (live_of (cells_of u)) a d ≡ true
  listed_held a d h =
      let found = in_any (eq_by_cmp listed_cmp (entry a d)) (listed_at u.held kept) h in
      let k = found.1.0 in
      let inside = found.1.1 in
      let within : k < length kept = omega (arith, inside, as_long u.held kept kept_held) in
      let none : Id = record { index = 0; generation = 0 } in
      let id = get_or kept k none in
      let c = some_of (maps.get u.held id) (kept_held k none within) in
      let one : listing c.0 ≡ entry a d =
      same_some (listing c.0) (entry a d) (sym (ap (option_map listing) c.1) ∙ entry_there u.held kept kept_held k none found.0 within ∙ ap Some (found.1.2 ∙ sym (listed_exact (entry a d) found.0 (equal_of _ found.2)))) in
      (λ n. is_held (live_of (cells_of u)) (sym one n).member (sym one n).dot)
      ∙ ap (λ o. option_map_or (eq_by_cmp member_cmp c.0.member) (option_map (λ g. g.0) o) false) (its_live u.dots u.held u.spent v id c.0 c.1) ∙ member_itself c.0.member

  held_listed : (a : Member) (d : Dot) → is_held (live_of (cells_of u)) a d ≡ true → is_listed (listed_at u.held kept) a d ≡ true
  held_listed a d h = elim (look (maps.get (live_of (cells_of u)) d)) [
    | inl n ↦ absurd (true≢false (sym h ∙ ap (λ o. option_map_or (eq_by_cmp member_cmp a) (option_map (λ g. g.0) o) false) n))
    | inr g ↦
        let c = cell_of_live u v d g.0 g.1 in
        let member : a ≡ g.0.0 = exact_members a g.0.0 (equal_of _ (ap (λ o. option_map_or (eq_by_cmp member_cmp a) (option_map (λ y. y.0) o) false) (sym g.1) ∙ h)) in
        let one : listing c.cell ≡ entry a d = λ k. record { member = (ap (λ y. y.0) c.is ∙ sym member) k; dot = c.dot k } in
        let i = in_index s own x c.id c.cell (f.was c.id c.cell c.held) in
        let there = filter_has is_kept own c.id i (ap is_some c.held) in
        let j = there.0 in
        let within = there.1 in
        let listed : option_map listing (maps.get u.held (get_or kept j c.id)) ≡ Some (entry a d) = ap (λ q. option_map listing (maps.get u.held q)) there.2 ∙ ap (option_map listing) c.held ∙ ap Some one in
        let at : get_or (listed_at u.held kept) j (entry a d) ≡ entry a d = same_some _ _ (sym (entry_there u.held kept kept_held j c.id (entry a d) within) ∙ listed) in
        list_any_at (eq_by_cmp listed_cmp (entry a d)) (listed_at u.held kept) j (entry a d) (omega (arith, within, as_long u.held kept kept_held))
        (rising.same_tied listed_cmp listed_total listed_exact (entry a d) (get_or (listed_at u.held kept) j (entry a d)) (sym at))
  ]

  -- the ids that have a cell are the index
  pub kept_indexed : AreIndexed u kept
  kept_indexed = record {
    placed = v;
    held = kept_held;
    index = record { rises = rises_sorted u.held kept kept_held kept_sorted; lists = λ a d. both_ways (is_listed (listed_at u.held kept) a d) (is_held (live_of (cells_of u)) a d) (listed_held a d) (held_listed a d) };
  }

  -- no dot has an id that it hadn't
  had_id : (q : Dot) (id : Id) → maps.get (ids_by u.dots) q ≡ Some id → maps.get (ids_by s.dots) q ≡ Some id
  had_id q id e =
      let c = dot_of (maps.get u.held id) q (its_cell u.dots u.held u.spent v q id e) in
      ap (maps.get (ids_by s.dots)) (sym c.2) ∙ its_id s.dots s.held s.spent x.placed id c.0 (f.was id c.0 c.1)

  pub kept_follow : IdsFollow (ids_by s.dots) s.spent (ids_by u.dots) u.spent
  kept_follow = record {
    kept = λ d id e. elim (look (maps.get (ids_by u.dots) d)) [
      | inl n ↦ inr n
      | inr k ↦ inl (k.1 ∙ sym (had_id d k.0 k.1) ∙ e)
    ];
    new = λ d id e k. absurd (let some = sym (had_id d id k) ∙ e in cc some);
    spent_before = f.spent_before;
    spent_now = λ id h.
        let c = dot_of (maps.get s.held id) h.dot (its_cell s.dots s.held s.spent x.placed h.dot id h.had) in
        f.spent_now id (record {
          cell = c.0;
          had = c.1;
          gone = elim (look (maps.get u.held id)) [
            | inl n ↦ n
            | inr k ↦ absurd (
                let one = same_some k.0 c.0 (sym (f.was id k.0 k.1) ∙ c.1) in
                let some = sym (its_id u.dots u.held u.spent v id k.0 k.1) ∙ ap (maps.get (ids_by u.dots)) (ap (λ y. y.dot) one ∙ c.2) ∙ h.gone in cc some)
          ];
        });
    spent_alone = λ id h. elim (f.spent_alone id h) [
      | inl t ↦ inl t
      | inr w ↦ inr (record {
        dot = w.cell.dot;
        had = its_id s.dots s.held s.spent x.placed id w.cell w.had;
        gone = elim (look (maps.get (ids_by u.dots) w.cell.dot)) [
          | inl n ↦ n
          | inr k ↦ absurd (
              let one = same_some k.0 id (sym (had_id w.cell.dot k.0 k.1) ∙ its_id s.dots s.held s.spent x.placed id w.cell w.had) in
              let c = dot_of (maps.get u.held k.0) w.cell.dot (its_cell u.dots u.held u.spent v w.cell.dot k.0 k.1) in
              let some = sym c.1 ∙ ap (maps.get u.held) one ∙ w.gone in cc some)
        ];
      })
    ];
  }

  module _ (test : Dot → Bool) (chosen : AreChosen test s.dots s.held u.held) where
    -- the cell of an id that had one
    left_cell : (id : Id) (cell : LiveDot) → maps.get s.held id ≡ Some cell → maps.get u.held id ≡ (if test cell.dot then None else Some cell)
    left_cell id cell e =
        let p : Placed = record { dot = cell.dot; id = id } in
        let there = found_in s.dots cell.dot id (x.placed.alone id cell e) in
        ap (λ (q : Placed). maps.get u.held q.id) (sym there.2) ∙ chosen there.0 p there.1 ∙ (λ k. if test (there.2 k).dot then None else maps.get s.held (there.2 k).id)
        ∙ ap (λ o. if test cell.dot then None else o) e

    abbrev no_id : Option Id
    no_id = None

    left_id : (q : Dot) → maps.get (ids_by u.dots) q ≡ (if test q then None else maps.get (ids_by s.dots) q)
    left_id q = elim (look (maps.get (ids_by s.dots) q)) [
      | inl n ↦ nothing n (look (maps.get (ids_by u.dots) q)) ∙ neither (test q) ∙ ap (λ o. if test q then None else o) (sym n)
      | inr k ↦
          let c = dot_of (maps.get s.held k.0) q (its_cell s.dots s.held s.spent x.placed q k.0 k.1) in
          let cell : maps.get u.held k.0 ≡ (if test q then None else Some c.0) = left_cell k.0 c.0 c.1 ∙ ap (λ d. if test d then None else Some c.0) c.2 in
          by (test q) k.0 c.0 k.1 c.2 cell ∙ ap (λ o. if test q then None else o) (sym k.1)
    ]
      where
        nothing : maps.get (ids_by s.dots) q ≡ None → (maps.get (ids_by u.dots) q ≡ None) ⊎ ((id : Id) × (maps.get (ids_by u.dots) q ≡ Some id)) → maps.get (ids_by u.dots) q ≡ None
        nothing n (inl e) = e
        nothing n (inr k) = absurd (let some = sym (had_id q k.0 k.1) ∙ n in cc some)

        neither : (b : Bool) → no_id ≡ (if b then None else no_id)
        neither true = refl
        neither false = refl

        by : (b : Bool) (id : Id) (c : LiveDot) → maps.get (ids_by s.dots) q ≡ Some id → c.dot ≡ q → maps.get u.held id ≡ (if b then None else Some c) → maps.get (ids_by u.dots) q ≡ (if b then None else Some id)
        by false id c had dot e = ap (maps.get (ids_by u.dots)) (sym dot) ∙ its_id u.dots u.held u.spent v id c e
        by true id c had dot e = gone_now (look (maps.get (ids_by u.dots) q))
          where
            gone_now : (maps.get (ids_by u.dots) q ≡ None) ⊎ ((i : Id) × (maps.get (ids_by u.dots) q ≡ Some i)) → maps.get (ids_by u.dots) q ≡ None
            gone_now (inl n) = n
            gone_now (inr k) = absurd (
                let one = same_some k.0 id (sym (had_id q k.0 k.1) ∙ had) in
                let g = dot_of (maps.get u.held k.0) q (its_cell u.dots u.held u.spent v q k.0 k.1) in
                let some = sym g.1 ∙ ap (maps.get u.held) one ∙ e in cc some)

    left_live : (q : Dot) → maps.get (live_of (cells_of u)) q ≡ (if test q then None else maps.get (live_of (cells_of s)) q)
    left_live q =
        live_found u.dots u.held u.spent v q ∙ ap (option_and_then (λ id. option_map holding (maps.get u.held id))) (left_id q)
        ∙ by (test q) (maps.get (ids_by s.dots) q) refl refl ∙ ap (λ o. if test q then None else o) (sym (live_found s.dots s.held s.spent x.placed q))
      where
        by : (b : Bool) (o : Option Id) → test q ≡ b → maps.get (ids_by s.dots) q ≡ o
            → option_and_then (λ id. option_map holding (maps.get u.held id)) (if b then None else o) ≡ (if b then None else option_and_then (λ id. option_map holding (maps.get s.held id)) o)
        by true o t e = refl
        by false None t e = refl
        by false (Some id) t e =
            let c = dot_of (maps.get s.held id) q (its_cell s.dots s.held s.spent x.placed q id e) in
            ap (option_map holding) (left_cell id c.0 c.1 ∙ ap (λ d. if test d then None else Some c.0) c.2 ∙ ap (λ b. if b then None else Some c.0) t ∙ sym c.1)

    -- all dots that pass the test are live no more
    pub thinned_once : (a b : ℕ) → (live_state s a).room + length u.dots ≤ (live_state u b).room + length s.dots → IsThinned test (live_state s a) (live_state u b)
    thinned_once a b room = record {
      live = left_live;
      ids = left_id;
      follow = kept_follow;
      room = let m = len_live s.dots s.held s.spent x.placed in let n = len_live u.dots u.held u.spent v in omega (arith, room, m, n);
    }
