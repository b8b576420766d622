-- The placed dots and their cells after one dot more, one less, or one whose cell changed.
use Rattle.std.proofs.Common.{◌≡◌, ◌≢◌, ℕ, ◌+◌, ◌-◌, ◌≤◌, ◌<◌, true, false, cond, List, [], length, get_or, set, Some, None, is_some, refl, sym, ap, ◌∙◌, subst, inl, inr, arith}
use Rattle.std.specs.FinMap as maps
use Rattle.std.specs.FinMap.Entries.{find}
use Rattle.std.specs.FinSet as sets
use Rattle.std.specs.List.{All, insert, remove}
use Rattle.std.specs.Option.{option_map}
use Rattle.std.specs.Ordering.{eq_by_cmp}
use Rattle.std.proofs.lemmas.Bool.{cases_Bool}
use Rattle.std.proofs.lemmas.List.{length-map, get_or-map}
use Rattle.std.proofs.lemmas.List.Edits.{length-insert, length-remove}
use Rattle.std.proofs.lemmas.List.Elements.{All-map, All-nil, All-weaker}
use Rattle.dots.specs.Orders.{dot_cmp}
use Rattle.dots.proofs.DotOrder.{dots_total, dots_exact}
use Rattle.op_arena.specs.Ids.{Id, id_cmp}
use Rattle.live_cells.specs.declared.live_dot.LiveDot.{LiveDot}
use Rattle.live_cells.specs.declared.placed.Placed.{Placed}
use Rattle.live_cells.specs.CellIds.{IdSet}
use Rattle.live_cells.specs.LiveLists.{IsGap}
use Rattle.live_cells.specs.PlacedStates.{AreHeld, ArePlaced, CellMap, cells_at, ids_of}
use Rattle.live_cells.specs.PlacedLists.{id_entries}
use Rattle.live_cells.proofs.DotTests.{same_tied}
use Rattle.live_cells.proofs.GivenItems.{given_insert, given_remove, given_set, given_alike}
use Rattle.op_arena.proofs.IdOrder.{ids_total, ids_exact}
use Rattle.live_cells.proofs.ListEdits.{All_insert, All_others, map_insert, map_remove}
use Rattle.live_cells.proofs.MapSteps.{apart_by, gone as left, gone_other, got, got_other, spent_more, untied}
use Rattle.live_cells.proofs.CellsOfDots.{Ahead, AreThere, ahead_dots, all_held, as_long, before_dots, cell_there, ids_apart, no_cell, same_some, some_there}
use Rattle.live_cells.proofs.Rising as rising
use Rattle.live_cells.proofs.RisingMaps.{put_finds, put_rises, removed_finds, removed_rises}

-- an id is another than one that isn't held
pub other_id : (held : CellMap) (id q : Id) → maps.get held id ≡ None → is_some (maps.get held q) ≡ true → q ≢ id
other_id held id q free there same = let x = ap (λ y. is_some (maps.get held y)) same ∙ ap is_some free in cc

-- held ids have the cells that they had, where a cell is put in under an id that isn't held
pub cells_kept : (held : CellMap) (id : Id) (cell : LiveDot) (ids : List Id) → maps.get held id ≡ None → AreHeld held ids → cells_at (maps.insert held id cell) ids ≡ cells_at held ids
cells_kept held id cell ids free a =
    given_alike (λ q. maps.get (maps.insert held id cell) q) (λ q. maps.get held q) ids
    (All-weaker (λ q. is_some (maps.get held q) ≡ true) (λ q. maps.get (maps.insert held id cell) q ≡ maps.get held q) (λ q h. got_other id_cmp ids_total ids_exact held id cell q (other_id held id q free h)) ids a)

pub still_held : (held : CellMap) (id : Id) (cell : LiveDot) (ids : List Id) → maps.get held id ≡ None → AreHeld held ids → AreHeld (maps.insert held id cell) ids
still_held held id cell ids free a =
    All-weaker (λ q. is_some (maps.get held q) ≡ true) (λ q. is_some (maps.get (maps.insert held id cell) q) ≡ true) (λ q h. ap is_some (got_other id_cmp ids_total ids_exact held id cell q (other_id held id q free h)) ∙ h) ids a

-- the cells of ids after one more id is inserted
pub cells_more : (held : CellMap) (id : Id) (cell : LiveDot) (ids : List Id) (i : ℕ) → maps.get held id ≡ None → AreHeld held ids → cells_at (maps.insert held id cell) (insert ids i id) ≡ insert (cells_at held ids) i cell
cells_more held id cell ids i free a =
    given_insert (λ q. maps.get (maps.insert held id cell) q) ids i id cell (still_held held id cell ids free a) (got id_cmp ids_total ids_exact held id cell)
    ∙ ap (λ xs. insert xs i cell) (cells_kept held id cell ids free a)

-- one id less, which stands once
pub cells_less : (held : CellMap) (ids : List Id) (i : ℕ) (id : Id) → AreHeld held ids → All (λ q. q ≢ id) (remove ids i) → cells_at (maps.remove held id) (remove ids i) ≡ remove (cells_at held ids) i
cells_less held ids i id a others =
    given_alike (λ q. maps.get (maps.remove held id) q) (λ q. maps.get held q) (remove ids i) (All-weaker (λ q. q ≢ id) (λ q. maps.get (maps.remove held id) q ≡ maps.get held q) (gone_other id_cmp ids_total ids_exact held id) (remove ids i) others)
    ∙ given_remove (λ q. maps.get held q) ids i a

-- another cell of an id, which stands once
pub cells_changed : (held : CellMap) (ids : List Id) (i : ℕ) (id : Id) (cell : LiveDot) → AreHeld held ids → i < length ids → get_or ids i id ≡ id → ((k : ℕ) (d : Id) → k < length ids → k ≢ i → get_or ids k d ≢ id)
    → cells_at (maps.insert held id cell) ids ≡ set (cells_at held ids) i cell
cells_changed held ids i id cell a l is others =
    given_set (λ q. maps.get held q) (λ q. maps.get (maps.insert held id cell) q) ids i id cell a l (ap (maps.get (maps.insert held id cell)) is ∙ got id_cmp ids_total ids_exact held id cell)
    (λ k d m n. got_other id_cmp ids_total ids_exact held id cell (get_or ids k d) (others k d m n))

module _ (dots : List Placed) (held : CellMap) (spent : IdSet) (a : ArePlaced dots held spent) where
  abbrev cells : List LiveDot
  cells = cells_at held (ids_of dots)

  abbrev HasCell : CellMap → Placed → Type 0
  HasCell m p = option_map (λ c. c.dot) (maps.get m p.id) ≡ Some p.dot

  -- one dot more
  module _ (i : ℕ) (id : Id) (cell : LiveDot) (gap : IsGap cells cell.dot i) (free : maps.get held id ≡ None) where
    abbrev here : Placed
    here = record { dot = cell.dot; id = id }

    within : i ≤ length dots
    within = let w = gap.within in omega (arith, as_long dots held a.there)

    ahead : Ahead cell.dot dots i
    ahead = ahead_dots dots held a.there cell.dot i cell within gap.before

    pub more_cells : cells_at (maps.insert held id cell) (ids_of (insert dots i here)) ≡ insert cells i cell
    more_cells = ap (cells_at (maps.insert held id cell)) (map_insert (λ p. p.id) dots i here) ∙ cells_more held id cell (ids_of dots) i free (all_held dots held a.there)

    more_there : AreThere (maps.insert held id cell) (insert dots i here)
    more_there =
        All_insert (HasCell (maps.insert held id cell)) dots i here (ap (option_map (λ c. c.dot)) (got id_cmp ids_total ids_exact held id cell))
        (All-weaker (HasCell held) (HasCell (maps.insert held id cell)) (λ p h. ap (option_map (λ c. c.dot)) (got_other id_cmp ids_total ids_exact held id cell p.id (other_id held id p.id free (some_there (maps.get held p.id) p.dot h))) ∙ h) dots a.there)

    more_alone : (q : Id) (c : LiveDot) → maps.get (maps.insert held id cell) q ≡ Some c → find dot_cmp c.dot (id_entries (insert dots i here)) ≡ Some q
    more_alone q c e =
        put_finds dot_cmp dots_total dots_exact (λ p. p.dot) (λ p. p.id) dots i here a.sorted within ahead (before_dots dots held a.there cell.dot i cell gap) c.dot ∙ elim (cases_Bool (eq_by_cmp id_cmp q id)) [
          | inl t ↦
              let same = rising.one_key id_cmp ids_total ids_exact q id t in
              let one : cell ≡ c = same_some cell c (sym (got id_cmp ids_total ids_exact held id cell) ∙ ap (maps.get (maps.insert held id cell)) (sym same) ∙ e) in
              ap (λ b. cond b (Some id) (find dot_cmp c.dot (id_entries dots))) (same_tied c.dot cell.dot (ap (λ x. x.dot) (sym one))) ∙ ap Some (sym same)
          | inr f ↦
              let before = sym (got_other id_cmp ids_total ids_exact held id cell q (apart_by id_cmp ids_total ids_exact q id f)) ∙ e in
              let old = a.alone q c before in
              ap (λ b. cond b (Some id) (find dot_cmp c.dot (id_entries dots))) (untied dot_cmp dots_total dots_exact c.dot cell.dot (λ same. let none = sym old ∙ ap (λ d. find dot_cmp d (id_entries dots)) same ∙ missed in cc)) ∙ old
        ]
      where
        missed : find dot_cmp cell.dot (id_entries dots) ≡ None
        missed = rising.missed_at dot_cmp dots_total dots_exact (λ p. p.dot) (λ p. p.id) cell.dot dots i a.sorted ahead within (before_dots dots held a.there cell.dot i cell gap)

    pub more_placed : sets.contains spent id ≡ false → ArePlaced (insert dots i here) (maps.insert held id cell) spent
    more_placed unspent = record {
      sorted = put_rises dot_cmp dots_total dots_exact (λ p. p.dot) (λ p. p.id) dots i here a.sorted within ahead (before_dots dots held a.there cell.dot i cell gap);
      there = more_there;
      alone = more_alone;
      as_many = maps.len-insert ids_total held id cell ∙ ap (λ o. cond (is_some o) (maps.len held) (maps.len held + 1)) free ∙ ap (λ n. n + 1) a.as_many ∙ sym (length-insert dots i here within);
      unspent = All_insert (λ p. sets.contains spent p.id ≡ false) dots i here unspent a.unspent;
    }

  -- one dot less
  module _ (i : ℕ) (e : Placed) (l : i < length dots) where
    abbrev gone : Placed
    gone = get_or dots i e

    others : All (λ p. p.id ≢ gone.id) (remove dots i)
    others = All_others (λ p. p.id ≢ gone.id) dots i (λ k d m n. ids_apart dots held a.there a.sorted k i d e m l n)

    there_gone : (c : LiveDot) → maps.get held gone.id ≡ Some (get_or cells i c)
    there_gone c = cell_there dots held a.there i e c l

    pub less_cells : cells_at (maps.remove held gone.id) (ids_of (remove dots i)) ≡ remove cells i
    less_cells =
        ap (cells_at (maps.remove held gone.id)) (map_remove (λ p. p.id) dots i)
        ∙ cells_less held (ids_of dots) i gone.id (all_held dots held a.there) (subst (All (λ q. q ≢ gone.id)) (map_remove (λ p. p.id) dots i) (All-map (λ q. q ≢ gone.id) (λ p. p.id) (remove dots i) others))

    less_there : AreThere (maps.remove held gone.id) (remove dots i)
    less_there = All_others (HasCell (maps.remove held gone.id)) dots i (λ k d m n. ap (option_map (λ c. c.dot)) (gone_other id_cmp ids_total ids_exact held gone.id (get_or dots k d).id (ids_apart dots held a.there a.sorted k i d e m l n)) ∙ a.there k d m)

    ahead_gone : Ahead gone.dot dots i
    ahead_gone k p lo hi = rising.earlier dot_cmp dots_total dots_exact (λ p. p.dot) (λ p. p.id) dots k i p e a.sorted hi l

    finds_gone : find dot_cmp gone.dot (id_entries dots) ≡ Some gone.id
    finds_gone = rising.found_at dot_cmp dots_total dots_exact (λ p. p.dot) (λ p. p.id) gone.dot dots i e a.sorted l refl

    less_alone : (q : Id) (c : LiveDot) → maps.get (maps.remove held gone.id) q ≡ Some c → find dot_cmp c.dot (id_entries (remove dots i)) ≡ Some q
    less_alone q c h =
        removed_finds dot_cmp dots_total dots_exact (λ p. p.dot) (λ p. p.id) gone.dot dots i e a.sorted l ahead_gone refl c.dot ∙ elim (cases_Bool (eq_by_cmp id_cmp q gone.id)) [
          | inl t ↦ absurd (let none = ap (maps.get (maps.remove held gone.id)) (rising.one_key id_cmp ids_total ids_exact q gone.id t) ∙ left id_cmp ids_total ids_exact held gone.id in let some = sym h ∙ none in cc)
          | inr f ↦
              let other = apart_by id_cmp ids_total ids_exact q gone.id f in
              let old = a.alone q c (sym (gone_other id_cmp ids_total ids_exact held gone.id q other) ∙ h) in
              ap (λ b. cond b None (find dot_cmp c.dot (id_entries dots))) (untied dot_cmp dots_total dots_exact c.dot gone.dot (λ same. other (same_some q gone.id (sym old ∙ ap (λ d. find dot_cmp d (id_entries dots)) same ∙ finds_gone)))) ∙ old
        ]

    pub less_placed : ArePlaced (remove dots i) (maps.remove held gone.id) (sets.insert spent gone.id)
    less_placed = record {
      sorted = removed_rises dot_cmp dots_total dots_exact (λ p. p.dot) (λ p. p.id) gone.dot dots i e a.sorted l ahead_gone refl;
      there = less_there;
      alone = less_alone;
      as_many =
          let less = length-remove dots i l in
          let had : maps.len held ≡ length dots = a.as_many in
          let now : maps.len (maps.remove held gone.id) ≡ maps.len held - 1 = maps.len-remove ids_total held gone.id ∙ ap (λ o. cond (is_some o) (maps.len held - 1) (maps.len held)) (there_gone (no_cell gone.dot)) in
          omega arith;
      unspent = All_others (λ p. sets.contains (sets.insert spent gone.id) p.id ≡ false) dots i (λ k d m n. spent_more id_cmp ids_total ids_exact spent gone.id (get_or dots k d).id (ids_apart dots held a.there a.sorted k i d e m l n) (a.unspent k d m));
    }

  -- another cell of a dot
  module _ (i : ℕ) (e : Placed) (l : i < length dots) (cell : LiveDot) (same : cell.dot ≡ (get_or dots i e).dot) where
    abbrev its : Id
    its = (get_or dots i e).id

    pub changed_cells : cells_at (maps.insert held its cell) (ids_of dots) ≡ set cells i cell
    changed_cells =
        cells_changed held (ids_of dots) i its cell (all_held dots held a.there) (omega (arith, length-map dots (λ p. p.id))) (get_or-map (λ p. p.id) dots i e its l)
        (λ k d m n. let lt : k < length dots = omega (arith, m, length-map dots (λ p. p.id)) in
        λ q. ids_apart dots held a.there a.sorted k i e e lt l n (sym (get_or-map (λ p. p.id) dots k e d lt) ∙ q))

    changed_at : (q : Id) → q ≡ its → maps.get (maps.insert held its cell) q ≡ Some cell
    changed_at q t = ap (maps.get (maps.insert held its cell)) t ∙ got id_cmp ids_total ids_exact held its cell

    changed_there : AreThere (maps.insert held its cell) dots
    changed_there k p m = elim (cases_Bool (eq_by_cmp id_cmp (get_or dots k p).id its)) [
      | inl t ↦
          let one = rising.one_key id_cmp ids_total ids_exact (get_or dots k p).id its t in
          ap (option_map (λ c. c.dot)) (changed_at (get_or dots k p).id one) ∙ ap Some same
          ∙ sym (a.there i e l) ∙ ap (λ q. option_map (λ c. c.dot) (maps.get held q)) (sym one) ∙ a.there k p m
      | inr f ↦ ap (option_map (λ c. c.dot)) (got_other id_cmp ids_total ids_exact held its cell (get_or dots k p).id (apart_by id_cmp ids_total ids_exact (get_or dots k p).id its f)) ∙ a.there k p m
    ]

    changed_alone : (q : Id) (c : LiveDot) → maps.get (maps.insert held its cell) q ≡ Some c → find dot_cmp c.dot (id_entries dots) ≡ Some q
    changed_alone q c h = elim (cases_Bool (eq_by_cmp id_cmp q its)) [
      | inl t ↦
          let one = rising.one_key id_cmp ids_total ids_exact q its t in
          let own : cell ≡ c = same_some cell c (sym (changed_at q one) ∙ h) in
          ap (λ x. find dot_cmp x.dot (id_entries dots)) (sym own) ∙ ap (λ d. find dot_cmp d (id_entries dots)) same
          ∙ rising.found_at dot_cmp dots_total dots_exact (λ p. p.dot) (λ p. p.id) (get_or dots i e).dot dots i e a.sorted l refl ∙ ap Some (sym one)
      | inr f ↦ a.alone q c (sym (got_other id_cmp ids_total ids_exact held its cell q (apart_by id_cmp ids_total ids_exact q its f)) ∙ h)
    ]

    pub changed_placed : ArePlaced dots (maps.insert held its cell) spent
    changed_placed = record {
      sorted = a.sorted;
      there = changed_there;
      alone = changed_alone;
      as_many = maps.len-insert ids_total held its cell ∙ ap (λ o. cond (is_some o) (maps.len held) (maps.len held + 1)) (cell_there dots held a.there i e cell l) ∙ a.as_many;
      unspent = a.unspent;
    }

-- where nothing is placed
pub nothing_placed : (dots : List Placed) (held : CellMap) (spent : IdSet) → dots ≡ [] → held ≡ maps.empty → ArePlaced dots held spent
nothing_placed dots held spent none empty = subst (λ ps. ArePlaced ps held spent) (sym none) (subst (λ m. ArePlaced [] m spent) (sym empty) (record {
  sorted = refl;
  there = All-nil (λ p. option_map (λ c. c.dot) (maps.get maps.empty p.id) ≡ Some p.dot);
  alone = λ id cell h. let none = sym h ∙ maps.get-empty id_cmp id in cc;
  as_many = maps.len-empty id_cmp LiveDot;
  unspent = All-nil (λ p. sets.contains spent p.id ≡ false);
}))

-- what is placed by equal parts
pub same_placed : (dots ds : List Placed) (held m : CellMap) (spent s : IdSet) → ds ≡ dots → m ≡ held → s ≡ spent → ArePlaced dots held spent → ArePlaced ds m s
same_placed dots ds held m spent s d h e a = subst (λ (X : Type 0). X) (λ k. ArePlaced (sym d k) (sym h k) (sym e k)) a
