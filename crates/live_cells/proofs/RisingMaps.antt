-- The maps of lists whose keys rise, and what they are after one element more or one less.
use Rattle.std.proofs.Common.{◌≡◌, ℕ, ◌≤◌, ◌<◌, Bool, true, false, not, cond, List, [], length, map as each, get_or, Some, None, T, refl, sym, ap, ◌∙◌, subst}
use Rattle.std.specs.Cmp.{IsTotalOrder}
use Rattle.std.specs.FinMap as maps
use Rattle.std.specs.FinMap.Entries.{find, find-put, find-where_key, is_sorted-put, is_sorted-where_key}
use Rattle.std.specs.List.{AllWithin, insert, remove}
use Rattle.std.specs.Ordering.{eq_by_cmp, is_lt}
use Rattle.std.specs.declared.cmp.Ordering.{Ordering}
use Rattle.std.specs.declared.cmp.Ordering.TheVariants.{Equal}
use Rattle.std.proofs.lemmas.Cmp.{eq_by_cmp_equiv}
use Rattle.general_lemmas.proofs.TruthTables.{truth, fact}
use Rattle.live_cells.proofs.Rising as rising

pub turned : {A : Type 0} (b : Bool) (x y : A) → cond (not b) x y ≡ cond b y x
turned true x y = refl
turned false x y = refl

pub map_of_nil : {K V : Type 0} (R : K → K → Ordering) → maps.from_sorted {X = V} {R = R} [] ≡ maps.empty
map_of_nil R = maps.empty_of_len (maps.from_sorted []) (maps.len-entries (maps.from_sorted []) ∙ ap length (maps.entries-from_sorted R [] tt))

module _ {X K V : Type 0} (R : K → K → Ordering) (o : IsTotalOrder R) (exact : maps.IsAntisymmetric R) (key : X → K) (value : X → V) where
  abbrev pub entries : List X → List (K × V)
  entries xs = each (λ x. (key x, value x)) xs

  abbrev pub Rise : List X → Type 0
  Rise xs = maps.is_sorted R (entries xs) ≡ true

  abbrev pub map_of : List X → maps.FinMap R V
  map_of xs = maps.from_sorted (entries xs)

  abbrev pub Ahead : K → List X → ℕ → Type 0
  Ahead d xs i = AllWithin (λ x. is_lt (R (key x) d) ≡ true) xs 0 i

  -- what lies before a key ends at a place, where a greater key stands, if any
  abbrev pub Before : K → List X → ℕ → Type 0
  Before d xs i = (e : X) → i < length xs → is_lt (R d (key (get_or xs i e))) ≡ true

  pub get_map_of : (xs : List X) (q : K) → Rise xs → maps.get (map_of xs) q ≡ find R q (entries xs)
  get_map_of xs q s = maps.get-from_sorted R (entries xs) q (truth _ s)

  -- an element that is put in at its place
  module _ (xs : List X) (i : ℕ) (x : X) (s : Rise xs) (w : i ≤ length xs) (a : Ahead (key x) xs i) (h : Before (key x) xs i) where
    pub put : entries (insert xs i x) ≡ maps.put R (key x) (value x) (entries xs)
    put = rising.put_at R o exact key value xs i x s w a h

    pub put_rises : Rise (insert xs i x)
    put_rises = fact _ (subst (λ es. T (maps.is_sorted R es)) (sym put) (is_sorted-put R o (key x) (value x) (entries xs) (truth _ s)))

    pub put_finds : (q : K) → find R q (entries (insert xs i x)) ≡ cond (eq_by_cmp R q (key x)) (Some (value x)) (find R q (entries xs))
    put_finds q = ap (find R q) put ∙ find-put R o q (key x) (value x) (entries xs)

    pub put_map : map_of (insert xs i x) ≡ maps.insert (map_of xs) (key x) (value x)
    put_map = maps.same_map o exact _ _ (λ q.
        get_map_of (insert xs i x) q put_rises ∙ put_finds q ∙ ap (cond (eq_by_cmp R q (key x)) (Some (value x))) (sym (get_map_of xs q s)) ∙ sym (maps.get-insert o (map_of xs) (key x) (value x) q))

  -- the element of a key that is taken out
  module _ (d : K) (xs : List X) (i : ℕ) (e : X) (s : Rise xs) (w : i < length xs) (a : Ahead d xs i) (h : d ≡ key (get_or xs i e)) where
    pub removed : entries (remove xs i) ≡ maps.Entries.where_key R (λ x. not (eq_by_cmp R d x)) (entries xs)
    removed = rising.removed_at R o exact key value d xs i e s w a h

    pub removed_rises : Rise (remove xs i)
    removed_rises = fact _ (subst (λ es. T (maps.is_sorted R es)) (sym removed) (is_sorted-where_key R (λ x. not (eq_by_cmp R d x)) (entries xs) (truth _ s)))

    alike : (q x : K) → R q x ≡ Equal → not (eq_by_cmp R d x) ≡ not (eq_by_cmp R d q)
    alike q x t = ap (λ y. not (eq_by_cmp R d y)) (sym (exact q x t))

    pub removed_finds : (q : K) → find R q (entries (remove xs i)) ≡ cond (eq_by_cmp R q d) None (find R q (entries xs))
    removed_finds q =
        ap (find R q) removed ∙ find-where_key R (λ x. not (eq_by_cmp R d x)) q (alike q) (entries xs) ∙ turned (eq_by_cmp R d q) _ _
        ∙ ap (λ b. cond b None (find R q (entries xs))) ((eq_by_cmp_equiv o).symm d q)

    pub removed_map : map_of (remove xs i) ≡ maps.remove (map_of xs) d
    removed_map = maps.same_map o exact _ _ (λ q.
        get_map_of (remove xs i) q removed_rises ∙ removed_finds q ∙ ap (cond (eq_by_cmp R q d) None) (sym (get_map_of xs q s)) ∙ sym (maps.get-remove o (map_of xs) d q))
