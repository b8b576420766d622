-- What live dots are kept by, after one dot more, one less, or one whose fields were joined.
use Rattle.std.proofs.Common.{◌≡◌, ◌≢◌, ℕ, ◌≤◌, ◌<◌, true, false, List, length, get_or, set, map as each, Option, Some, None, is_some, refl, sym, ap, ◌∙◌, subst, inl, inr, arith}
use Rattle.std.specs.FinMap as maps
use Rattle.std.specs.FinSet as sets
use Rattle.std.specs.List.{insert, remove}
use Rattle.std.specs.Option.{option_map, option_map_or}
use Rattle.std.specs.Ordering.{eq_by_cmp}
use Rattle.std.proofs.lemmas.Bool.{cases_Bool, cases_order}
use Rattle.dots.specs.Values.{Dot}
use Rattle.dots.specs.Orders.{dot_cmp, member_cmp}
use Rattle.operations.specs.Conditions.{DotFields}
use Rattle.dots.proofs.DotOrder.{dots_total, dots_exact}
use Rattle.op_arena.specs.Ids.{Id, id_cmp, id_of}
use Rattle.live_cells.specs.Index.{Listed}
use Rattle.live_cells.specs.declared.live_dot.LiveDot.{LiveDot}
use Rattle.live_cells.specs.declared.placed.Placed.{Placed}
use Rattle.live_cells.specs.CellIds.{IsNew}
use Rattle.live_cells.specs.LiveLists.{IsCellAt, IsGap, holding, live_of}
use Rattle.live_cells.specs.LiveStates.{fields_joined_at, joined_at_held}
use Rattle.live_cells.specs.Index.{IsIndex, IsPlaceFor, Rises, is_listed, listed_cmp, listing}
use Rattle.live_cells.specs.PlacedStates.{AreHeld, AreIndexed, IsPlaced, PlacedState, cells_at, cells_of, joined_with, listed_at}
use Rattle.live_cells.proofs.CellLists.{same_place}
use Rattle.live_cells.proofs.Changes.{brought_live, gap_live, met_live, met_members, taken_live}
use Rattle.live_cells.proofs.Indexes.{less_lists, less_rises, listed_exact, listed_less, listed_more, listed_still, listed_total, more_lists, more_rises, stands}
use Rattle.op_arena.proofs.IdOrder.{ids_total, ids_exact}
use Rattle.live_cells.proofs.Relisted.{as_many}
use Rattle.live_cells.proofs.ListEdits.{All_insert, All_others, map_insert, map_remove}
use Rattle.live_cells.proofs.ListedIds.{as_long, entry_there, listed_alike}
use Rattle.live_cells.proofs.LiveMaps.{dot_here, ids_by, its_cell, its_live, rise, within_dots}
use Rattle.live_cells.proofs.MapSteps.{apart_by, gone_other, got, got_other}
use Rattle.live_cells.proofs.MemberOrder.{member_itself}
use Rattle.live_cells.proofs.PlacedChanges.{cells_less, cells_more, still_held}
use Rattle.live_cells.proofs.CellsOfDots.{ahead_dots, as_long as placed_long, before_dots, cell_there, no_cell, same_some}
use Rattle.live_cells.proofs.Rising as rising
use Rattle.live_cells.proofs.RisingMaps.{put_map, removed_map}

-- the index has as many ids as there are live dots
pub members_count : (s : PlacedState) (members : List Id) → AreIndexed s members → length members ≡ length s.dots
members_count s members x =
    sym (as_long s.held members x.held) ∙ as_many (cells_of s) (listed_at s.held members) (rise s.dots s.held s.spent x.placed) x.index ∙ placed_long s.dots s.held x.placed.there

-- one dot more is placed
module _ (s t : PlacedState) (a : IsPlaced s) (i : ℕ) (cell : LiveDot) (id : Id) (gap : IsGap (cells_of s) cell.dot i) (free : maps.get s.held id ≡ None) (h : t.held ≡ maps.insert s.held id cell) where
  pub live_more : cells_of t ≡ insert (cells_of s) i cell → live_of (cells_of t) ≡ maps.insert (live_of (cells_of s)) cell.dot (holding cell)
  live_more cs = maps.same_map dots_total dots_exact _ _ (λ q.
      ap (λ ds. maps.get (live_of ds) q) cs ∙ brought_live (cells_of s) i cell q (rise s.dots s.held s.spent a) gap ∙ sym (maps.get-insert dots_total (live_of (cells_of s)) cell.dot (holding cell) q))

  pub ids_more : t.dots ≡ insert s.dots i (record { dot = cell.dot; id = id }) → ids_by t.dots ≡ maps.insert (ids_by s.dots) cell.dot id
  ids_more ds =
      let w : i ≤ length s.dots = let v = gap.within in omega (arith, placed_long s.dots s.held a.there) in
      ap ids_by ds
      ∙ put_map dot_cmp dots_total dots_exact (λ p. p.dot) (λ p. p.id) s.dots i (record { dot = cell.dot; id = id }) a.sorted w (ahead_dots s.dots s.held a.there cell.dot i cell w gap.before) (before_dots s.dots s.held a.there cell.dot i cell gap)

  pub is_new : sets.contains s.spent id ≡ false → ((g : ℕ) → g < id.generation → sets.contains s.spent (id_of id.index g) ≡ true) → IsNew (ids_by s.dots) s.spent s.spent id
  is_new unspent lesser = record {
    free = λ dot e. let there = its_cell s.dots s.held s.spent a dot id e in let none = ap (option_map (λ c. c.dot)) (sym free) ∙ there in cc;
    unspent = unspent;
    lesser = lesser;
  }

-- one more dot is in the index
module _ (s t : PlacedState) (members : List Id) (x : AreIndexed s members) (i : ℕ) (cell : LiveDot) (id : Id) (gap : IsGap (cells_of s) cell.dot i) (free : maps.get s.held id ≡ None) (h : t.held ≡ maps.insert s.held id cell) where
  held_more : AreHeld t.held members
  held_more = subst (λ m. AreHeld m members) (sym h) (still_held s.held id cell members free x.held)

  cell_more : maps.get t.held id ≡ Some cell
  cell_more = ap (λ m. maps.get m id) h ∙ got id_cmp ids_total ids_exact s.held id cell

  not_listed : is_listed (listed_at s.held members) cell.member cell.dot ≡ false
  not_listed = x.index.lists cell.member cell.dot ∙ ap (λ o. option_map_or (eq_by_cmp member_cmp cell.member) (option_map (λ h. h.0) o) false) (gap_live (cells_of s) cell.dot i (rise s.dots s.held s.spent x.placed) gap)

  pub indexed_more : (j : ℕ) → cells_of t ≡ insert (cells_of s) i cell → IsPlaced t → IsPlaceFor (listed_at s.held members) (listing cell) j → AreIndexed t (insert members j id)
  indexed_more j cs valid at =
      let index = listed_at s.held members in
      let listed : listed_at t.held (insert members j id) ≡ insert index j (listing cell) =
      ap (λ m. listed_at m (insert members j id)) h ∙ ap (each listing) (cells_more s.held id cell members j free x.held) ∙ map_insert listing (cells_at s.held members) j cell in
      record {
        placed = valid;
        held = All_insert (λ q. is_some (maps.get t.held q) ≡ true) members j id (ap is_some cell_more) held_more;
        index = listed_more index (listed_at t.held (insert members j id)) (live_of (cells_of s)) (live_of (cells_of t)) cell.member cell.dot (holding cell) refl x.index
            (gap_live (cells_of s) cell.dot i (rise s.dots s.held s.spent x.placed) gap)
            (λ q. ap (λ ds. maps.get (live_of ds) q) cs ∙ brought_live (cells_of s) i cell q (rise s.dots s.held s.spent x.placed) gap)
            (subst Rises (sym listed) (more_rises index j (listing cell) at not_listed x.index.rises))
            (λ m q. ap (λ ls. is_listed ls m q) listed ∙ more_lists index j (listing cell) at not_listed x.index.rises m q);
      }

-- one dot less
module _ (s : PlacedState) (members : List Id) (x : AreIndexed s members) (d : Dot) (i : ℕ) (p : Placed) (at : IsCellAt (cells_of s) d i) where
  abbrev its : Id
  its = (get_or s.dots i p).id

  abbrev pub cell : LiveDot
  cell = get_or (cells_of s) i (no_cell d)

  pub here : maps.get s.held its ≡ Some cell
  here = cell_there s.dots s.held x.placed.there i p (no_cell d) (within_dots s.dots s.held s.spent x.placed d i at)

  pub live_less : (t : PlacedState) → cells_of t ≡ remove (cells_of s) i → live_of (cells_of t) ≡ maps.remove (live_of (cells_of s)) d
  live_less t cs = ap live_of cs ∙ taken_live (cells_of s) d i (no_cell d) (rise s.dots s.held s.spent x.placed) at

  pub ids_less : (t : PlacedState) → t.dots ≡ remove s.dots i → ids_by t.dots ≡ maps.remove (ids_by s.dots) d
  ids_less t ds =
      let w = within_dots s.dots s.held s.spent x.placed d i at in
      ap ids_by ds
      ∙ removed_map dot_cmp dots_total dots_exact (λ p. p.dot) (λ p. p.id) d s.dots i p x.placed.sorted w (ahead_dots s.dots s.held x.placed.there d i (no_cell d) (omega arith) at.before) (dot_here s.dots s.held s.spent x.placed d i p at)

  listed_here : is_listed (listed_at s.held members) cell.member cell.dot ≡ true
  listed_here = x.index.lists cell.member cell.dot ∙ ap (λ o. option_map_or (eq_by_cmp member_cmp cell.member) (option_map (λ h. h.0) o) false) (its_live s.dots s.held s.spent x.placed its cell here) ∙ member_itself cell.member

  module _ (j : ℕ) (place : IsPlaceFor (listed_at s.held members) (listing cell) j) where
    abbrev index : List Listed
    index = listed_at s.held members

    standing : (j < length index) × ((e : Listed) → listing cell ≡ get_or index j e)
    standing = stands (listing cell) index j x.index.rises place.within place.before place.past listed_here

    pub stands_in : j < length members
    stands_in = let w = standing.0 in omega (arith, as_long s.held members x.held)

    -- the id at another place is another
    others : (k : ℕ) (e : Id) → k < length members → k ≢ j → get_or members k e ≢ its
    others k e l n same =
        let w = standing.0 in
        let one : get_or index k (listing cell) ≡ get_or index j (listing cell) =
        same_some _ _ (sym (entry_there s.held members x.held k e (listing cell) l) ∙ ap (λ q. option_map listing (maps.get s.held q)) same ∙ ap (option_map listing) here ∙ ap Some (standing.1 (listing cell))) in
        let m : k < length index = omega (arith, as_long s.held members x.held) in
        elim (cases_order k j) [
          | inl q ↦ n q
          | inr (inl lt) ↦ rising.keys_differ listed_cmp listed_total listed_exact (λ y. y) (λ y. tt) index k j (listing cell) (listing cell) x.index.rises lt w one
          | inr (inr lt) ↦ rising.keys_differ listed_cmp listed_total listed_exact (λ y. y) (λ y. tt) index j k (listing cell) (listing cell) x.index.rises lt m (sym one)
        ]

    pub indexed_less : (t : PlacedState) → t.held ≡ maps.remove s.held its → cells_of t ≡ remove (cells_of s) i → IsPlaced t → AreIndexed t (remove members j)
    indexed_less t h cs valid =
        let listed : listed_at t.held (remove members j) ≡ remove index j =
        ap (λ m. listed_at m (remove members j)) h ∙ ap (each listing) (cells_less s.held members j its x.held (All_others (λ q. q ≢ its) members j others)) ∙ map_remove listing (cells_at s.held members) j in
        record {
          placed = valid;
          held = All_others (λ q. is_some (maps.get t.held q) ≡ true) members j (λ k e l n.
              ap (λ m. is_some (maps.get m (get_or members k e))) h ∙ ap is_some (gone_other id_cmp ids_total ids_exact s.held its (get_or members k e) (others k e l n)) ∙ x.held k e l);
          index = listed_less index (listed_at t.held (remove members j)) (live_of (cells_of s)) (live_of (cells_of t)) cell.member cell.dot (holding cell) refl x.index
              (its_live s.dots s.held s.spent x.placed its cell here)
              (live_less t cs ∙ ap (maps.remove (live_of (cells_of s))) (at.here (no_cell d)))
              (subst Rises (sym listed) (less_rises index j (listing cell) x.index.rises place listed_here))
              (λ m q. ap (λ ls. is_listed ls m q) listed ∙ less_lists index j (listing cell) x.index.rises place listed_here m q);
        }

-- one dot whose fields were joined with others
module _ (s t : PlacedState) (members : List Id) (x : AreIndexed s members) (d : Dot) (i : ℕ) (p : Placed) (fields : DotFields) (at : IsCellAt (cells_of s) d i) where
  abbrev own : Id
  own = (get_or s.dots i p).id

  abbrev had : LiveDot
  had = get_or (cells_of s) i (no_cell d)

  abbrev joined : LiveDot
  joined = joined_with had fields

  had_here : maps.get s.held own ≡ Some had
  had_here = cell_there s.dots s.held x.placed.there i p (no_cell d) (within_dots s.dots s.held s.spent x.placed d i at)

  module _ (h : t.held ≡ maps.insert s.held own joined) (cs : cells_of t ≡ set (cells_of s) i joined) where
    one_at : (q : Id) → option_map listing (maps.get t.held q) ≡ option_map listing (maps.get s.held q)
    one_at q = ap (λ m. option_map listing (maps.get m q)) h ∙ elim (cases_Bool (eq_by_cmp id_cmp q own)) [
      | inl b ↦
          let same = rising.one_key id_cmp ids_total ids_exact q own b in
          ap (λ r. option_map listing (maps.get (maps.insert s.held own joined) r)) same ∙ ap (option_map listing) (got id_cmp ids_total ids_exact s.held own joined)
          ∙ ap (option_map listing) (sym had_here) ∙ ap (λ r. option_map listing (maps.get s.held r)) (sym same)
      | inr f ↦ ap (option_map listing) (got_other id_cmp ids_total ids_exact s.held own joined q (apart_by id_cmp ids_total ids_exact q own f))
    ]

    still : (q : Id) → is_some (maps.get s.held q) ≡ true → is_some (maps.get t.held q) ≡ true
    still q e = by_entry (maps.get t.held q) ∙ ap is_some (one_at q) ∙ sym (by_entry (maps.get s.held q)) ∙ e
      where
        by_entry : (o : Option LiveDot) → is_some o ≡ is_some (option_map listing o)
        by_entry None = refl
        by_entry (Some c) = refl

    pub indexed_joined : IsPlaced t → AreIndexed t members
    indexed_joined valid = record {
      placed = valid;
      held = λ k e l. still (get_or members k e) (x.held k e l);
      index = subst (λ ls. IsIndex ls (live_of (cells_of t))) (sym (listed_alike (λ q. maps.get t.held q) (λ q. maps.get s.held q) members (λ k e l. one_at (get_or members k e))))
          (listed_still (listed_at s.held members) (live_of (cells_of s)) (live_of (cells_of t)) (λ q.
          ap (λ ds. option_map (λ h. h.0) (maps.get (live_of ds) q)) cs
          ∙ met_members (cells_of s) i had joined q (rise s.dots s.held s.spent x.placed) at.within (same_place (cells_of s) i (no_cell d) had at.within) refl refl) x.index);
    }

    pub has_met : live_of (cells_of t) ≡ fields_joined_at (live_of (cells_of s)) d fields
    has_met =
        let dot : d ≡ had.dot = at.here (no_cell d) in
        let held : maps.get (live_of (cells_of s)) d ≡ Some (holding had) = ap (maps.get (live_of (cells_of s))) dot ∙ its_live s.dots s.held s.spent x.placed own had had_here in
        maps.same_map dots_total dots_exact _ _ (λ q.
        ap (λ ds. maps.get (live_of ds) q) cs
        ∙ met_live (cells_of s) i had joined q (rise s.dots s.held s.spent x.placed) (subst (λ e. IsCellAt (cells_of s) e i) dot at) (same_place (cells_of s) i (no_cell d) had at.within)
        ∙ sym (maps.get-insert dots_total (live_of (cells_of s)) had.dot (holding joined) q))
        ∙ ap (λ e. maps.insert (live_of (cells_of s)) e (holding joined)) (sym dot) ∙ sym (ap (joined_at_held (live_of (cells_of s)) d fields) held)
