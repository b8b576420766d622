-- What is placed once cells were moved here, and their dots were sorted and merged with those that were placed.
use Rattle.std.proofs.Common.{◌≡◌, ◌≢◌, ℕ, suc, ◌+◌, ◌<◌, true, false, cond, inl, inr, Contains, List, [], ◌∷◌, ◌++◌, length, get_or, Option, Some, None, refl, sym, ap, subst, ◌∙◌, arith, true≢false}
use Rattle.std.specs.Cmp.{IsTotalOrder}
use Rattle.std.specs.FinMap as maps
use Rattle.std.specs.FinMap.Entries.{find}
use Rattle.std.specs.FinSet as sets
use Rattle.std.specs.List.{All, IsDistinct}
use Rattle.std.specs.List.Sorted.{IsPermutation, IsSortedByKey, IsStrictlySortedBy}
use Rattle.std.specs.Option.{option_map}
use Rattle.std.specs.Ordering.{eq_by_cmp, is_lt}
use Rattle.std.proofs.lemmas.Bool.{cases_Bool}
use Rattle.std.proofs.lemmas.Cmp.{eq_by_cmp_equiv, on_total}
use Rattle.std.proofs.lemmas.List.{get_or-map, length-append, length-map}
use Rattle.std.proofs.lemmas.List.Elements.{All-append, All-weaker, Contains-append_left, Contains-append_right}
use Rattle.std.proofs.lemmas.List.Sorted.{All-permutation, Contains-permutation, IsPermutation-sym, length_permutation}
use Rattle.std.proofs.lemmas.Map.Keys.{IsDistinct-IsPermutation, IsDistinct-from_apart, apart_from_distinct}
use Rattle.dots.specs.Values.{Dot}
use Rattle.dots.specs.Orders.{dot_cmp}
use Rattle.dots.proofs.DotOrder.{dots_exact, dots_total}
use Rattle.general_lemmas.proofs.Membership.{any_in, first_in, later_in}
use Rattle.general_lemmas.proofs.TruthTables.{less_of}
use Rattle.op_arena.proofs.IdOrder.{ids_exact, ids_total}
use Rattle.op_arena.specs.Ids.{Id, id_cmp, id_of}
use Rattle.live_cells.specs.declared.live_dot.LiveDot.{LiveDot}
use Rattle.live_cells.specs.declared.placed.Placed.{Placed}
use Rattle.live_cells.specs.CellIds.{IdSet}
use Rattle.live_cells.specs.Merges.{AreUntied, placed_cmp}
use Rattle.live_cells.specs.Moves.{AreMoved, IsDotThere, IsUnusedId}
use Rattle.live_cells.specs.PlacedLists.{id_entries, is_placed}
use Rattle.live_cells.specs.PlacedStates.{AreHeld, ArePlaced, CellMap, cells_at, ids_of}
use Rattle.live_cells.proofs.DotTests.{one_dot}
use Rattle.live_cells.proofs.GivenItems.{given_at, length_given}
use Rattle.live_cells.proofs.MapSteps.{apart_by, untied}
use Rattle.live_cells.proofs.Merging.{lies_before, rises_by}
use Rattle.live_cells.proofs.CellsOfDots.{as_long, dot_there, no_cell, same_some}
use Rattle.live_cells.proofs.PlacedOrder.{Rise, found_at}
use Rattle.live_cells.proofs.Rising as rising

pub placed_total : IsTotalOrder placed_cmp
placed_total = on_total (λ (p : Placed). p.dot) dots_total

-- placed dots that rise are sorted, and the other way round
pub sorted_rise : (ps : List Placed) → Rise ps → IsStrictlySortedBy placed_cmp ps
sorted_rise ps r = rises_by placed_cmp placed_total ps (λ i j d l m. less_of _ (rising.earlier dot_cmp dots_total dots_exact (λ p. p.dot) (λ p. p.id) ps i j d d r l m))

pub rise_sorted : (ps : List Placed) → IsStrictlySortedBy placed_cmp ps → Rise ps
rise_sorted ps s = rising.rise_steps dot_cmp dots_total dots_exact (λ p. p.dot) (λ p. p.id) ps (λ k e l. ap is_lt (lies_before placed_cmp placed_total ps k (suc k) e e s (omega arith) l))

-- what is found of a dot is among them
pub found_in : (ps : List Placed) (d : Dot) (id : Id) → find dot_cmp d (id_entries ps) ≡ Some id → Contains ps (record { dot = d; id = id })
found_in [] d id e = absurd (cc)
found_in (p ∷ ps) d id e = elim (cases_Bool (eq_by_cmp dot_cmp d p.dot)) [
  | inl t ↦
      let one = same_some p.id id (ap (λ b. cond b (Some p.id) (find dot_cmp d (id_entries ps))) (sym t) ∙ e) in
      subst (Contains (p ∷ ps)) (λ k. record { dot = sym (one_dot d p.dot t) k; id = one k }) (first_in p ps)
  | inr f ↦ later_in p ps (record { dot = d; id = id }) (found_in ps d id (ap (λ b. cond b (Some p.id) (find dot_cmp d (id_entries ps))) (sym f) ∙ e))
]

-- a dot among them is found with its id
in_found : (ps : List Placed) (p : Placed) → Rise ps → Contains ps p → find dot_cmp p.dot (id_entries ps) ≡ Some p.id
in_found ps p r (k, l, is) = found_at p.dot ps k p r l (sym (ap (λ x. x.dot) is)) ∙ ap (λ x. Some x.id) is

-- cells of a set there, in the order of some ids of theirs, that were moved
module _ (others : List Placed) (there : CellMap) (gone : IdSet) (b : ArePlaced others there gone) (ids : List Id) (ids_held : AreHeld there ids) (differ : IsDistinct (eq_by_cmp id_cmp) ids)
    (held : CellMap) (spent : IdSet) (after : CellMap) (arrived : List Placed) (now : List Id) (m : AreMoved held spent there ids after arrived now) where
  cells_same : cells_at after (ids_of arrived) ≡ cells_at there ids
  cells_same = ap (cells_at after) m.listed ∙ m.cells

  pub as_many_arrived : length arrived ≡ length ids
  as_many_arrived = sym (as_long arrived after m.named) ∙ ap length cells_same ∙ length_given (λ q. maps.get there q) ids ids_held

  -- the id there of a dot that was moved
  id_there : (k : ℕ) (p : Placed) (id : Id) → k < length arrived → find dot_cmp (get_or arrived k p).dot (id_entries others) ≡ Some (get_or ids k id)
  id_there k p id l =
      let c = no_cell p.dot in
      let dot : (get_or (cells_at there ids) k c).dot ≡ (get_or arrived k p).dot = ap (λ cs. (get_or cs k c).dot) (sym cells_same) ∙ dot_there arrived after m.named k p c l in
      ap (λ d. find dot_cmp d (id_entries others)) (sym dot)
      ∙ b.alone (get_or ids k id) (get_or (cells_at there ids) k c) (given_at (λ q. maps.get there q) ids k id c ids_held (omega (arith, as_many_arrived)))

  -- the dots that were moved differ
  arrived_differ : IsDistinct (eq_by_cmp placed_cmp) arrived
  arrived_differ = IsDistinct-from_apart (eq_by_cmp placed_cmp) arrived (λ i j d l n. untied dot_cmp dots_total dots_exact (get_or arrived i d).dot (get_or arrived j d).dot (λ same.
      let id = id_of 0 0 in
      apart_by id_cmp ids_total ids_exact (get_or ids i id) (get_or ids j id) (apart_from_distinct (eq_by_cmp id_cmp) ids i j id differ l (omega (arith, as_many_arrived)))
      (same_some _ _ (sym (id_there i d id (omega arith)) ∙ ap (λ x. find dot_cmp x (id_entries others)) same ∙ id_there j d id n))))

  -- the moved dots are in ascending order once they are sorted
  module _ (sorted : List Placed) (same : IsPermutation arrived sorted) (order : IsSortedByKey (λ p. p.dot) dot_cmp sorted) where
    sorted_differ : IsDistinct (eq_by_cmp placed_cmp) sorted
    sorted_differ = IsDistinct-IsPermutation (eq_by_cmp placed_cmp) (eq_by_cmp_equiv placed_total).symm arrived sorted same arrived_differ

    rises : Rise sorted
    rises = rising.rise_steps dot_cmp dots_total dots_exact (λ p. p.dot) (λ p. p.id) sorted (λ k e l.
        let next : k + 1 ≡ suc k = omega arith in
        let within : k + 1 < length sorted = omega arith in
        let a = (get_or sorted (k + 1) e).dot in
        let c = (get_or sorted k e).dot in
        let other : a ≢ c = λ one. apart_by dot_cmp dots_total dots_exact c a (apart_from_distinct (eq_by_cmp placed_cmp) sorted k (k + 1) e sorted_differ (omega arith) within) (sym one) in
        subst (λ j. is_lt (dot_cmp c (get_or sorted j e).dot) ≡ true) next (rising.after dot_cmp dots_total dots_exact a c other (order k e (omega arith) within)))

    pub sorted_rises : IsStrictlySortedBy placed_cmp sorted
    sorted_rises = sorted_rise sorted rises

    -- no dot of them was placed here
    module _ (own : List Placed) (a : ArePlaced own held spent) (apart : (id : Id) (cell : LiveDot) → maps.get there id ≡ Some cell → is_placed own cell.dot ≡ false) where
      pub fresh_untied : AreUntied placed_cmp own sorted
      fresh_untied x y mine theirs e =
          let moved = Contains-permutation sorted arrived y (IsPermutation-sym arrived sorted same) theirs in
          let from = subst (λ (p : Placed). IsDotThere there p.dot) moved.2 (m.from moved.0 y moved.1) in
          let one : y.dot ≡ x.dot = dots_exact y.dot x.dot e in
          true≢false (sym (any_in (λ p. eq_by_cmp dot_cmp y.dot p.dot) own x mine (rising.same_tied dot_cmp dots_total dots_exact y.dot x.dot one)) ∙ ap (is_placed own) (sym from.is) ∙ apart from.id from.cell from.held)

      abbrev HasDot : CellMap → Placed → Type 0
      HasDot map p = option_map (λ c. c.dot) (maps.get map p.id) ≡ Some p.dot

      still_there : (p : Placed) → HasDot held p → HasDot after p
      still_there p h = by (maps.get held p.id) refl h
        where
          by : (o : Option LiveDot) → maps.get held p.id ≡ o → option_map (λ c. c.dot) o ≡ Some p.dot → HasDot after p
          by None is e = absurd (cc)
          by (Some c) is e = ap (option_map (λ x. x.dot)) (m.kept p.id c is) ∙ e

      unspent_arrived : All (λ p. sets.contains spent p.id ≡ false) arrived
      unspent_arrived k p l =
          let within : k < length (ids_of arrived) = omega (arith, l, length-map arrived (λ x. x.id)) in
          let all : All (IsUnusedId held spent) (ids_of arrived) = subst (All (IsUnusedId held spent)) (sym m.listed) m.new_ids in
          let it = all k p.id within in
          ap (sets.contains spent) (sym (get_or-map (λ x. x.id) arrived k p p.id l)) ∙ it.unspent

      -- with those here, merged, they are placed
      pub come_placed : (merged : List Placed) → IsPermutation (own ++ sorted) merged → IsStrictlySortedBy placed_cmp merged → ArePlaced merged after spent
      come_placed merged all strict =
          let r = rise_sorted merged strict in
          let counts = length_permutation (own ++ sorted) merged all in
          let both = length-append own sorted in
          let many = length_permutation arrived sorted same in
          let moved = ap length m.listed in
          let mapped = length-map arrived (λ x. x.id) in
          let had = a.as_many in
          let count = m.count in
          record {
            sorted = r;
            there = All-permutation (HasDot after) (own ++ sorted) merged all
                (All-append (HasDot after) own sorted (All-weaker (HasDot held) (HasDot after) still_there own a.there) (All-permutation (HasDot after) arrived sorted same m.named));
            alone = λ id cell e. in_found merged (record { dot = cell.dot; id = id }) r (Contains-permutation (own ++ sorted) merged (record { dot = cell.dot; id = id }) all (elim (m.alone id cell e) [
              | inl was ↦ Contains-append_left own sorted (record { dot = cell.dot; id = id }) (found_in own cell.dot id (a.alone id cell was))
              | inr came ↦ Contains-append_right own sorted (record { dot = cell.dot; id = id }) (Contains-permutation arrived sorted (record { dot = cell.dot; id = id }) same came)
            ]));
            as_many = omega arith;
            unspent = All-permutation (λ p. sets.contains spent p.id ≡ false) (own ++ sorted) merged all
                (All-append (λ p. sets.contains spent p.id ≡ false) own sorted a.unspent (All-permutation (λ p. sets.contains spent p.id ≡ false) arrived sorted same unspent_arrived));
          }
