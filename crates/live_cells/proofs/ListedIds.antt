-- The ids of the index of members, and the entries that they stand for.
use Rattle.std.proofs.Common.{◌≡◌, ℕ, ◌≤◌, ◌<◌, Bool, true, false, List, [], ◌∷◌, length, get_or, take, drop, map as each, Option, Some, None, is_some, refl, sym, ap, ◌∙◌, arith}
use Rattle.std.specs.FinMap as maps
use Rattle.std.specs.List.{All, AllWithin, cons_option, filter_map}
use Rattle.std.specs.List.Sorted.{IsPartitionedBy, IsPartitionPoint}
use Rattle.std.specs.Option.{option_map, option_map_or}
use Rattle.std.specs.Ordering.{is_lt}
use Rattle.std.proofs.lemmas.List.{drop-map, get_or-map, length-map, take-map}
use Rattle.std.proofs.lemmas.List.Elements.{All-drop, All-head, All-tail, All-take}
use Rattle.operations.specs.Conditions.{no_fields}
use Rattle.op_arena.specs.Ids.{Id, id_of}
use Rattle.live_cells.specs.Index.{Listed}
use Rattle.live_cells.specs.declared.live_dot.LiveDot.{LiveDot}
use Rattle.live_cells.specs.Index.{IsPlaceFor, Rises, listed_cmp, listing}
use Rattle.live_cells.specs.PlacedStates.{AreHeld, CellMap, cells_at, listed_at}
use Rattle.live_cells.proofs.GivenItems.{given_drop, given_take, given_at, length_given}
use Rattle.live_cells.proofs.Indexes.{listed_exact, listed_total}
use Rattle.live_cells.proofs.Rising as rising

-- a cell of an entry, and an entry, where none is at hand
abbrev of_entry : Listed → LiveDot
of_entry l = record { dot = l.dot; member = l.member; fields = no_fields }

abbrev no_entry : Listed
no_entry = record { member = record { queue = 0; interface = [] }; dot = record { site = 0; count = 0 } }

-- cells of equal entries are listed alike
pub listed_alike : (g h : Id → Option LiveDot) (ids : List Id) → All (λ id. option_map listing (g id) ≡ option_map listing (h id)) ids → each listing (filter_map g ids) ≡ each listing (filter_map h ids)
listed_alike g h [] a = refl
listed_alike g h (id ∷ ids) a =
    both (g id) (h id) (All-head (λ id. option_map listing (g id) ≡ option_map listing (h id)) id ids a) (listed_alike g h ids (All-tail (λ id. option_map listing (g id) ≡ option_map listing (h id)) id ids a))
  where
    pushed : (o : Option LiveDot) (cs : List LiveDot) → each listing (cons_option o cs) ≡ cons_option (option_map listing o) (each listing cs)
    pushed None cs = refl
    pushed (Some c) cs = refl

    both : (o p : Option LiveDot) → option_map listing o ≡ option_map listing p → each listing (filter_map g ids) ≡ each listing (filter_map h ids)
        → each listing (cons_option o (filter_map g ids)) ≡ each listing (cons_option p (filter_map h ids))
    both o p e r = pushed o (filter_map g ids) ∙ (λ k. cons_option (e k) (r k)) ∙ sym (pushed p (filter_map h ids))

module _ (held : CellMap) (ids : List Id) (a : AreHeld held ids) where
  abbrev listed : List Listed
  listed = listed_at held ids

  pub as_long : length listed ≡ length ids
  as_long = length-map (cells_at held ids) listing ∙ length_given (λ id. maps.get held id) ids a

  -- the entry at a place is that of the cell of the id there
  pub entry_there : (k : ℕ) (id : Id) (l : Listed) → k < length ids → option_map listing (maps.get held (get_or ids k id)) ≡ Some (get_or listed k l)
  entry_there k id l w =
      ap (option_map listing) (given_at (λ q. maps.get held q) ids k id (of_entry l) a w)
      ∙ ap Some (sym (get_or-map listing (cells_at held ids) k (of_entry l) l (let n = length_given (λ q. maps.get held q) ids a in omega arith)))

  -- a test of the cell of an id, by its entry
  abbrev pub reported : (Listed → Bool) → Id → Bool
  reported p id = option_map_or (λ c. p (listing c)) (maps.get held id) false

  pub reported_there : (p : Listed → Bool) (k : ℕ) (id : Id) (l : Listed) → k < length ids → reported p (get_or ids k id) ≡ p (get_or listed k l)
  reported_there p k id l w = by_entry (maps.get held (get_or ids k id)) ∙ ap (λ o. option_map_or p o false) (entry_there k id l w)
    where
      by_entry : (o : Option LiveDot) → option_map_or (λ c. p (listing c)) o false ≡ option_map_or p (option_map listing o) false
      by_entry None = refl
      by_entry (Some c) = refl

  pub partitioned_ids : (p : Listed → Bool) → IsPartitionedBy p listed → IsPartitionedBy (reported p) ids
  partitioned_ids p h i j id l w t = reported_there p i id no_entry (omega arith) ∙ h i j no_entry l (omega (arith, as_long)) (sym (reported_there p j id no_entry w) ∙ t)

  pub reported_entries : (p : Listed → Bool) (b : Bool) (low high : ℕ) → high ≤ length ids → AllWithin (λ id. reported p id ≡ b) ids low high → AllWithin (λ l. p l ≡ b) listed low high
  reported_entries p b low high w h k l lo hi = sym (reported_there p k (id_of 0 0) l (omega arith)) ∙ h k (id_of 0 0) lo hi

  -- the ids before an entry come first
  pub before_first : (l : Listed) → Rises listed → IsPartitionedBy (reported (λ x. is_lt (listed_cmp x l))) ids
  before_first l r = partitioned_ids (λ x. is_lt (listed_cmp x l)) (rising.partitioned listed_cmp listed_total listed_exact (λ x. x) (λ x. tt) l listed r)

  pub place_for : (l : Listed) (i : ℕ) → i ≤ length ids → AllWithin (λ id. reported (λ x. is_lt (listed_cmp x l)) id ≡ true) ids 0 i → AllWithin (λ id. reported (λ x. is_lt (listed_cmp x l)) id ≡ false) ids i (length ids) → IsPlaceFor listed l i
  place_for l i w b p = record {
    within = omega (arith, as_long);
    before = reported_entries (λ x. is_lt (listed_cmp x l)) true 0 i w b;
    past = λ k x lo hi. reported_entries (λ x. is_lt (listed_cmp x l)) false i (length ids) (omega arith) p k x lo (omega (arith, as_long));
  }

  -- some ids in a row, and their entries
  pub held_between : (i n : ℕ) → AreHeld held (take n (drop i ids))
  held_between i n = All-take (λ q. is_some (maps.get held q) ≡ true) n (drop i ids) (All-drop (λ q. is_some (maps.get held q) ≡ true) i ids a)

  pub listed_between : (i n : ℕ) → listed_at held (take n (drop i ids)) ≡ take n (drop i listed)
  listed_between i n =
      ap (each listing) (given_take (λ q. maps.get held q) (drop i ids) n (All-drop (λ q. is_some (maps.get held q) ≡ true) i ids a) ∙ ap (take n) (given_drop (λ q. maps.get held q) ids i a))
      ∙ sym (take-map listing n (drop i (cells_at held ids))) ∙ ap (take n) (sym (drop-map listing i (cells_at held ids)))

  -- the places of a member's entries, by a test of the cells
  pub parts_entries : (p : Listed → Bool) (i : ℕ) → i ≤ length ids → IsPartitionPoint (λ id. reported p id ≡ true) (λ id. reported p id ≡ false) ids i → IsPartitionPoint (λ l. p l ≡ true) (λ l. p l ≡ false) listed i
  parts_entries p i w parts = (reported_entries p true 0 i w parts.0, λ k x lo hi. reported_entries p false i (length ids) (omega arith) parts.1 k x lo (omega (arith, as_long)))
