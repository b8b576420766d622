-- Live dots that rise, each with its id: which are among them, and where.
use Rattle.std.proofs.Common.{◌≡◌, ◌≢◌, ℕ, ◌+◌, ◌≤◌, ◌<◌, Bool, true, false, cond, ◌||◌, List, [], ◌∷◌, length, get_or, is_some, Some, None, refl, sym, ap, ◌∙◌, subst, arith}
use Rattle.std.specs.List.{AllWithin}
use Rattle.std.specs.List.Sorted.{IsPartitionedBy}
use Rattle.std.specs.Ordering.{is_lt, eq_by_cmp}
use Rattle.std.specs.FinMap as maps
use Rattle.std.specs.FinMap.Entries.{below_all, find, is_sorted}
use Rattle.std.proofs.lemmas.Bool.{false_from_ne_true}
use Rattle.std.proofs.lemmas.List.{get_or_default}
use Rattle.dots.specs.Values.{Dot}
use Rattle.dots.specs.Orders.{dot_cmp}
use Rattle.dots.proofs.DotOrder.{dots_total, dots_exact}
use Rattle.general_lemmas.proofs.TruthTables.{fact}
use Rattle.live_cells.specs.CellIds.{IdMap}
use Rattle.live_cells.specs.declared.placed.Placed.{Placed}
use Rattle.live_cells.specs.LiveStates.{LiveState}
use Rattle.live_cells.specs.PlacedLists.{id_entries, is_placed}
use Rattle.live_cells.proofs.Rising as rising

-- a list of which the elements that pass a test come first
module _ {X : Type 0} (p : X → Bool) (xs : List X) where
  -- one that doesn't: none does from there on
  pub passed_all : (i : ℕ) (x : X) → IsPartitionedBy p xs → i < length xs → x ≡ get_or xs i x → p x ≡ false → AllWithin (λ y. p y ≡ false) xs i (length xs)
  passed_all i x parted l is h k d lo hi =
      let here : p (get_or xs i d) ≡ false = subst (λ y. p y ≡ false) (is ∙ get_or_default xs i x d l) h in
      false_from_ne_true (p (get_or xs k d)) (λ t. let early = parted i k d lo hi t in absurd (cc))

  -- one that does: all before it do
  pub passed_upto : (i : ℕ) → IsPartitionedBy p xs → i < length xs → AllWithin (λ y. p y ≡ true) xs i (i + 1) → AllWithin (λ y. p y ≡ true) xs 0 (i + 1)
  passed_upto i parted l here k d lo hi = parted k i d (omega arith) l (here i d (omega arith) (omega arith))

-- placed dots are sorted
abbrev pub Rise : List Placed → Type 0
Rise ps = is_sorted dot_cmp (id_entries ps) ≡ true

-- the first i lie before a dot
abbrev pub Ahead : Dot → List Placed → ℕ → Type 0
Ahead d ps i = AllWithin (λ p. is_lt (dot_cmp p.dot d) ≡ true) ps 0 i

pub rise_tail : (p : Placed) (ps : List Placed) → Rise (p ∷ ps) → Rise ps
rise_tail = rising.rise_tail dot_cmp dots_total dots_exact (λ p. p.dot) (λ p. p.id)

pub rise_head : (p : Placed) (ps : List Placed) → Rise (p ∷ ps) → below_all dot_cmp p.dot (id_entries ps) ≡ true
rise_head = rising.rise_head dot_cmp dots_total dots_exact (λ p. p.dot) (λ p. p.id)

-- the placed dots before a dot come first
pub partitioned : (d : Dot) (ps : List Placed) → Rise ps → IsPartitionedBy (λ p. is_lt (dot_cmp p.dot d)) ps
partitioned = rising.partitioned dot_cmp dots_total dots_exact (λ p. p.dot) (λ p. p.id)

-- what is found of a dot at its place
pub found_at : (d : Dot) (ps : List Placed) (i : ℕ) (e : Placed) → Rise ps → i < length ps → d ≡ (get_or ps i e).dot → find dot_cmp d (id_entries ps) ≡ Some (get_or ps i e).id
found_at = rising.found_at dot_cmp dots_total dots_exact (λ p. p.dot) (λ p. p.id)

-- nothing is found where the dot at the place lies after it
pub missed_at : (d : Dot) (ps : List Placed) (i : ℕ) → Rise ps → Ahead d ps i → i ≤ length ps → (here : (e : Placed) → i < length ps → is_lt (dot_cmp d (get_or ps i e).dot) ≡ true) → find dot_cmp d (id_entries ps) ≡ None
missed_at = rising.missed_at dot_cmp dots_total dots_exact (λ p. p.dot) (λ p. p.id)

pub same_place : (ps : List Placed) (i : ℕ) (e x : Placed) → i < length ps → get_or ps i e ≡ get_or ps i x
same_place = rising.same_place dot_cmp dots_total dots_exact (λ p. p.dot) (λ p. p.id)

-- one that doesn't lie before a dot, and isn't the dot, lies after it
pub lies_after : (d : Dot) (ps : List Placed) (i : ℕ) (x : Placed) → i < length ps → x ≡ get_or ps i x → d ≢ x.dot
    → AllWithin (λ p. is_lt (dot_cmp p.dot d) ≡ false) ps i (length ps) → (e : Placed) → i < length ps → is_lt (dot_cmp d (get_or ps i e).dot) ≡ true
lies_after = rising.lies_after dot_cmp dots_total dots_exact (λ p. p.dot) (λ p. p.id)

-- a dot is among them exactly where its id is found
pub placed_found : (ps : List Placed) (q : Dot) → is_placed ps q ≡ is_some (find dot_cmp q (id_entries ps))
placed_found [] q = refl
placed_found (p ∷ ps) q = ap (λ b. eq_by_cmp dot_cmp q p.dot || b) (placed_found ps q) ∙ split (eq_by_cmp dot_cmp q p.dot)
  where
    split : (b : Bool) → (b || is_some (find dot_cmp q (id_entries ps))) ≡ is_some (cond b (Some p.id) (find dot_cmp q (id_entries ps)))
    split true = refl
    split false = refl

-- placed dots that are the entries of a map
module _ (ps : List Placed) (ids : IdMap) (are : id_entries ps ≡ maps.entries ids) where
  pub placed_rise : Rise ps
  placed_rise = ap (is_sorted dot_cmp) are ∙ fact _ (maps.entries_sorted ids)

  -- a dot is among them where it has an id
  pub placed_named : (q : Dot) → is_placed ps q ≡ maps.contains_key ids q
  placed_named q = placed_found ps q ∙ ap (λ es. is_some (find dot_cmp q es)) are ∙ ap is_some (sym (maps.get-entries ids q))

-- a dot is among the placed ones if it is live
pub placed_live : (ps : List Placed) (s : LiveState) → id_entries ps ≡ maps.entries s.ids → ((q : Dot) → maps.contains_key s.ids q ≡ maps.contains_key s.live q) → is_placed ps ≡ maps.contains_key s.live
placed_live ps s are named = λ i q. (placed_named ps s.ids are q ∙ named q) i
