-- The placed dots and their cells: one stands at the place of the other.
use Rattle.std.proofs.Common.{◌≡◌, ◌≢◌, ℕ, ◌≤◌, ◌<◌, true, ◌&&◌, List, [], ◌∷◌, length, get_or, map as each, Option, Some, None, is_some, refl, sym, ap, ◌∙◌, inl, inr, arith}
use Rattle.std.specs.FinMap as maps
use Rattle.std.specs.FinMap.Entries.{below_all, is_sorted}
use Rattle.std.specs.List.{All, AllWithin, cons_option}
use Rattle.std.specs.Option.{option_map}
use Rattle.std.specs.Ordering.{is_lt}
use Rattle.std.proofs.lemmas.Bool.{cases_order}
use Rattle.std.proofs.lemmas.List.{get_or-map, length-map}
use Rattle.std.proofs.lemmas.List.Elements.{All-head, All-map, All-tail, All-weaker}
use Rattle.dots.specs.Values.{Dot}
use Rattle.dots.specs.Orders.{dot_cmp}
use Rattle.operations.specs.Conditions.{no_fields}
use Rattle.dots.proofs.DotOrder.{dots_total, dots_exact}
use Rattle.general_lemmas.proofs.ItemOrder.{units}
use Rattle.live_cells.specs.declared.live_dot.LiveDot.{LiveDot}
use Rattle.live_cells.specs.declared.placed.Placed.{Placed}
use Rattle.live_cells.specs.LiveLists.{IsCellAt, IsGap, entries_of}
use Rattle.live_cells.specs.PlacedStates.{AreHeld, CellMap, cells_at, ids_of}
use Rattle.live_cells.specs.PlacedLists.{id_entries}
use Rattle.live_cells.proofs.GivenItems.{given_at, length_given}
use Rattle.live_cells.proofs.Rising as rising

-- the cell of each is that of its dot
abbrev pub AreThere : CellMap → List Placed → Type 0
AreThere held dots = All (λ p. option_map (λ c. c.dot) (maps.get held p.id) ≡ Some p.dot) dots

-- placed dots rise
abbrev pub Rise : List Placed → Type 0
Rise dots = is_sorted dot_cmp (id_entries dots) ≡ true

-- the first of them lie before a dot
abbrev pub Ahead : Dot → List Placed → ℕ → Type 0
Ahead d dots i = AllWithin (λ p. is_lt (dot_cmp p.dot d) ≡ true) dots 0 i

-- a cell of a dot, where none is at hand
abbrev pub no_cell : Dot → LiveDot
no_cell d = record { dot = d; member = record { queue = 0; interface = [] }; fields = no_fields }

pub same_some : {A : Type 0} (a b : A) → Some a ≡ Some b → a ≡ b
same_some a b e = cc

pub some_there : (o : Option LiveDot) (d : Dot) → option_map (λ c. c.dot) o ≡ Some d → is_some o ≡ true
some_there None d e = absurd (cc)
some_there (Some c) d e = refl

-- entries rise where their keys do
below_keys : {V : Type 0} (d : Dot) (es : List (Dot × V)) → below_all dot_cmp d (units (each (λ e. e.0) es)) ≡ below_all dot_cmp d es
below_keys d [] = refl
below_keys d (e ∷ es) = ap (λ b. is_lt (dot_cmp d e.0) && b) (below_keys d es)

sorted_keys : {V : Type 0} (es : List (Dot × V)) → is_sorted dot_cmp (units (each (λ e. e.0) es)) ≡ is_sorted dot_cmp es
sorted_keys [] = refl
sorted_keys (e ∷ es) = λ i. below_keys e.0 es i && sorted_keys es i

-- the cells have the dots
keys_are : (dots : List Placed) (held : CellMap) → AreThere held dots → each (λ e. e.0) (entries_of (cells_at held (ids_of dots))) ≡ each (λ e. e.0) (id_entries dots)
keys_are [] held a = refl
keys_are (p ∷ dots) held a =
    head (maps.get held p.id) (All-head (λ p. option_map (λ c. c.dot) (maps.get held p.id) ≡ Some p.dot) p dots a)
    (keys_are dots held (All-tail (λ p. option_map (λ c. c.dot) (maps.get held p.id) ≡ Some p.dot) p dots a))
  where
    head : (o : Option LiveDot) → option_map (λ c. c.dot) o ≡ Some p.dot → each (λ e. e.0) (entries_of (cells_at held (ids_of dots))) ≡ each (λ e. e.0) (id_entries dots)
        → each (λ e. e.0) (entries_of (cons_option o (cells_at held (ids_of dots)))) ≡ p.dot ∷ each (λ e. e.0) (id_entries dots)
    head None h r = absurd (cc)
    head (Some c) h r = λ k. same_some c.dot p.dot h k ∷ r k

module _ (dots : List Placed) (held : CellMap) (there : AreThere held dots) where
  abbrev cells : List LiveDot
  cells = cells_at held (ids_of dots)

  pub all_held : AreHeld held (ids_of dots)
  all_held =
      All-map (λ id. is_some (maps.get held id) ≡ true) (λ p. p.id) dots
      (All-weaker (λ p. option_map (λ c. c.dot) (maps.get held p.id) ≡ Some p.dot) (λ p. is_some (maps.get held p.id) ≡ true) (λ p. some_there (maps.get held p.id) p.dot) dots there)

  pub as_long : length cells ≡ length dots
  as_long = length_given (λ id. maps.get held id) (ids_of dots) all_held ∙ length-map dots (λ p. p.id)

  -- the cell at a place is that of the id there
  pub cell_there : (k : ℕ) (p : Placed) (c : LiveDot) → k < length dots → maps.get held (get_or dots k p).id ≡ Some (get_or cells k c)
  cell_there k p c l =
      ap (maps.get held) (sym (get_or-map (λ x. x.id) dots k p p.id l)) ∙ given_at (λ id. maps.get held id) (ids_of dots) k p.id c all_held (omega (arith, length-map dots (λ x. x.id)))

  -- the cell at a place has the dot at that place
  pub dot_there : (k : ℕ) (p : Placed) (c : LiveDot) → k < length dots → (get_or cells k c).dot ≡ (get_or dots k p).dot
  dot_there k p c l = same_some (get_or cells k c).dot (get_or dots k p).dot (ap (option_map (λ x. x.dot)) (sym (cell_there k p c l)) ∙ there k p l)

  pub cells_rise : Rise dots → is_sorted dot_cmp (entries_of cells) ≡ true
  cells_rise s = sym (sorted_keys (entries_of cells)) ∙ ap (λ ks. is_sorted dot_cmp (units ks)) (keys_are dots held there) ∙ sorted_keys (id_entries dots) ∙ s

  -- a dot's place, and its gap, among the dots is that among the cells
  pub at_cells : (d : Dot) (i : ℕ) (p : Placed) → i < length dots → Ahead d dots i → d ≡ (get_or dots i p).dot → IsCellAt cells d i
  at_cells d i p l a e = record {
    within = omega (arith, as_long);
    before = λ k c lo hi. ap (λ x. is_lt (dot_cmp x d)) (dot_there k p c (omega arith)) ∙ a k p lo hi;
    here = λ c. e ∙ sym (dot_there i p c l);
  }

  pub gap_cells : (d : Dot) (i : ℕ) → i ≤ length dots → Ahead d dots i → ((p : Placed) → i < length dots → is_lt (dot_cmp d (get_or dots i p).dot) ≡ true) → (p : Placed) → IsGap cells d i
  gap_cells d i w a h p = record {
    within = omega (arith, as_long);
    before = λ k c lo hi. ap (λ x. is_lt (dot_cmp x d)) (dot_there k p c (omega arith)) ∙ a k p lo hi;
    after = λ c l. let m : i < length dots = omega (arith, as_long) in ap (λ x. is_lt (dot_cmp d x)) (dot_there i p c m) ∙ h p m;
  }

  -- a place and a gap among the cells is one among the dots
  pub ahead_dots : (d : Dot) (i : ℕ) (c : LiveDot) → i ≤ length dots → AllWithin (λ x. is_lt (dot_cmp x.dot d) ≡ true) cells 0 i → Ahead d dots i
  ahead_dots d i c w a k p lo hi = ap (λ x. is_lt (dot_cmp x d)) (sym (dot_there k p c (omega arith))) ∙ a k c lo hi

  pub before_dots : (d : Dot) (i : ℕ) (c : LiveDot) → IsGap cells d i → (p : Placed) → i < length dots → is_lt (dot_cmp d (get_or dots i p).dot) ≡ true
  before_dots d i c gap p l = ap (λ x. is_lt (dot_cmp d x)) (sym (dot_there i p c l)) ∙ gap.after c (omega (arith, as_long))

  -- ids of two places differ
  pub ids_apart : Rise dots → (k i : ℕ) (p q : Placed) → k < length dots → i < length dots → k ≢ i → (get_or dots k p).id ≢ (get_or dots i q).id
  ids_apart s k i p q l m n same =
      let one : (get_or dots k p).dot ≡ (get_or dots i q).dot = same_some _ _ (sym (there k p l) ∙ ap (λ x. option_map (λ c. c.dot) (maps.get held x)) same ∙ there i q m) in
      elim (cases_order k i) [
        | inl e ↦ n e
        | inr (inl lt) ↦ rising.keys_differ dot_cmp dots_total dots_exact (λ p. p.dot) (λ p. p.id) dots k i p q s lt m one
        | inr (inr lt) ↦ rising.keys_differ dot_cmp dots_total dots_exact (λ p. p.dot) (λ p. p.id) dots i k q p s lt l (sym one)
      ]
