-- Sets that are kept in order.
use Rattle.std.proofs.Common.{◌≡◌, Bool, true, false, ◌&&◌, ◌||◌, List, [], ◌∷◌, map as each, refl, sym, ap, ◌∙◌}
use Rattle.std.specs.List.{list_any, AllByRecursion}
use Rattle.std.specs.List.Sorted.{IsStrictlySortedBy}
use Rattle.std.specs.BTreeSet.{insert_key}
use Rattle.std.specs.Cmp.{IsTotalOrder}
use Rattle.std.specs.FinMap as map
use Rattle.std.specs.FinMap.Entries.{below_all}
use Rattle.std.specs.Ordering.{eq_by_cmp, is_eq, is_lt, match_ordering}
use Rattle.std.specs.declared.cmp.Ordering.{Ordering}
use Rattle.std.specs.declared.cmp.Ordering.TheVariants.{Less, Equal, Greater}
use Rattle.std.proofs.lemmas.Cmp.{alike_right}
use Rattle.std.proofs.lemmas.Map.Keys.{sorted_head, sorted_tail}
use Rattle.std.proofs.Math.Bool.{or-false, or_assoc, or_comm}
use Rattle.general_lemmas.proofs.ItemOrder.{units}

-- ---- tests

or_twice : (a b : Bool) → (a || b) ≡ ((a || b) || a)
or_twice true b = refl
or_twice false b = sym (or-false b)

-- a loop's turn: a is what was there so far, and what is left is added to it
pub adds_first : (a first rest left new all : Bool) → left ≡ (first || rest) → new ≡ (a || first) → (a || left) ≡ all → (new || rest) ≡ all
adds_first a first rest left new all is made h = ap (λ b. b || rest) made ∙ or_assoc a first rest ∙ ap (λ b. a || b) (sym is) ∙ h

-- ---- one key more
module _ {K : Type 0} (R : K → K → Ordering) where
  -- a set with one key more has what it had, and the key
  pub any_insert : IsTotalOrder R → (q k : K) (ks : List K) → list_any (eq_by_cmp R q) (insert_key R ks k) ≡ (list_any (eq_by_cmp R q) ks || eq_by_cmp R q k)
  any_insert o q k [] = or-false (eq_by_cmp R q k)
  any_insert o q k (x ∷ xs) = by (R k x) refl (any_insert o q k xs)
    where
      has : K → Bool
      has y = eq_by_cmp R q y

      by : (r : Ordering) → R k x ≡ r → list_any (eq_by_cmp R q) (insert_key R xs k) ≡ (list_any (eq_by_cmp R q) xs || eq_by_cmp R q k)
          → list_any (eq_by_cmp R q) (match_ordering r (k ∷ x ∷ xs) (x ∷ xs) (x ∷ insert_key R xs k)) ≡ ((eq_by_cmp R q x || list_any (eq_by_cmp R q) xs) || eq_by_cmp R q k)
      by Less e rest = or_comm (eq_by_cmp R q k) (eq_by_cmp R q x || list_any (eq_by_cmp R q) xs)
      by Equal e rest =
          or_twice (eq_by_cmp R q x) (list_any (eq_by_cmp R q) xs)
          ∙ ap (λ b. (eq_by_cmp R q x || list_any (eq_by_cmp R q) xs) || b) (sym (ap is_eq (alike_right o k x q e)))
      by Greater e rest = ap (λ b. eq_by_cmp R q x || b) rest ∙ sym (or_assoc (eq_by_cmp R q x) (list_any (eq_by_cmp R q) xs) (eq_by_cmp R q k))

  module _ {A : Type 0} (see : A → K) where
    -- keys that are inserted by what is seen of them
    pub each_insert : (k : A) (ks : List A) → each see (insert_key (λ a b. R (see a) (see b)) ks k) ≡ insert_key R (each see ks) (see k)
    each_insert k [] = refl
    each_insert k (x ∷ xs) = by (R (see k) (see x)) (each_insert k xs)
      where
        by : (r : Ordering) → each see (insert_key (λ a b. R (see a) (see b)) xs k) ≡ insert_key R (each see xs) (see k)
            → each see (match_ordering r (k ∷ x ∷ xs) (x ∷ xs) (x ∷ insert_key (λ a b. R (see a) (see b)) xs k)) ≡ match_ordering r (see k ∷ see x ∷ each see xs) (see x ∷ each see xs) (see x ∷ insert_key R (each see xs) (see k))
        by Less rest = refl
        by Equal rest = refl
        by Greater rest = ap (λ ys. see x ∷ ys) rest

    below : (x : A) (xs : List A) → AllByRecursion (λ y. R (see x) (see y) ≡ Less) xs → below_all R (see x) (units (each see xs)) ≡ true
    below x [] h = refl
    below x (y ∷ ys) h = (λ i. is_lt (h.0 i) && below x ys h.1 i)

    -- keys that rise strictly
    pub rises : (xs : List A) → IsStrictlySortedBy (λ a b. R (see a) (see b)) xs → map.is_sorted R (units (each see xs)) ≡ true
    rises [] h = refl
    rises (x ∷ xs) h =
        (λ i. below x xs (sorted_head (λ a b. R (see a) (see b)) x xs h) i && rises xs (sorted_tail (λ a b. R (see a) (see b)) x xs h) i)

-- what is seen of each is itself
pub each_itself : {K : Type 0} (ks : List K) → each (λ k. k) ks ≡ ks
each_itself [] = refl
each_itself (k ∷ ks) = ap (λ rest. k ∷ rest) (each_itself ks)
