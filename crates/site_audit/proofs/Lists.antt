-- First and last elements of lists.
use Rattle.std.proofs.Common.{◌≡◌, ◌<◌, ◌≤◌, ◌+◌, ◌⊎◌, inl, inr, ℕ, zero, suc, List, [], ◌∷◌, ◌++◌, length, slice_get, Some, refl, sym, ap, subst, ◌∙◌, arith, take, drop}
use Rattle.std.proofs.lemmas.Option.{slice_get_within}
use Rattle.sites_world.proofs.Lists.{none_some, one_some}

-- one element more
pub take_next : {X : Type 0} (xs : List X) (n : ℕ) (x : X) → slice_get xs n ≡ Some x → take (suc n) xs ≡ take n xs ++ x ∷ []
take_next [] n x h = absurd (none_some x h)
take_next (y ∷ ys) zero x h = ap (λ z. z ∷ []) (one_some y x h)
take_next (y ∷ ys) (suc n) x h = ap (λ z. y ∷ z) (take_next ys n x h)

-- what is left begins with it
pub drop_next : {X : Type 0} (xs : List X) (n : ℕ) (x : X) → slice_get xs n ≡ Some x → drop n xs ≡ x ∷ drop (suc n) xs
drop_next [] n x h = absurd (none_some x h)
drop_next (y ∷ ys) zero x h = ap (λ z. z ∷ ys) (one_some y x h)
drop_next (y ∷ ys) (suc n) x h = drop_next ys n x h

-- all of a list
pub take_all : {X : Type 0} (xs : List X) → take (length xs) xs ≡ xs
take_all [] = refl
take_all (x ∷ xs) = ap (λ ys. x ∷ ys) (take_all xs)

pub drop_all : {X : Type 0} (xs : List X) → drop (length xs) xs ≡ []
drop_all [] = refl
drop_all (x ∷ xs) = drop_all xs

-- within a list there is an element
pub within_some : {X : Type 0} (xs : List X) (i : ℕ) → i < length xs → (x : X) × (slice_get xs i ≡ Some x)
within_some [] i lt = absurd (omega (arith, lt))
within_some (x ∷ xs) zero lt = (x, refl)
within_some (x ∷ xs) (suc i) lt = within_some xs i (omega (arith, lt))

-- the last one, behind a list
pub get_last : {X : Type 0} (xs : List X) (y : X) → slice_get (xs ++ y ∷ []) (length xs) ≡ Some y
get_last [] y = refl
get_last (x ∷ xs) y = get_last xs y

-- one of the list stays
pub get_front : {X : Type 0} (xs : List X) (y : X) (i : ℕ) (x : X) → slice_get xs i ≡ Some x → slice_get (xs ++ y ∷ []) i ≡ Some x
get_front [] y i x h = absurd (none_some x h)
get_front (z ∷ xs) y zero x h = h
get_front (z ∷ xs) y (suc i) x h = get_front xs y i x h

-- numbers are the same or not
pub same_or_not : (a b : ℕ) → (a ≡ b) ⊎ (a ≡ b → ⊥)
same_or_not zero zero = inl refl
same_or_not zero (suc b) = inr (λ e. omega (arith, e))
same_or_not (suc a) zero = inr (λ e. omega (arith, e))
same_or_not (suc a) (suc b) = elim (same_or_not a b) [
  | inl e ↦ inl (ap suc e)
  | inr apart ↦ inr (λ e. apart (let k = e in omega (arith, k)))
]

-- what is below one more is below, or is it
pub below_or_at : (n m : ℕ) → n < m + 1 → (n < m) ⊎ (n ≡ m)
below_or_at n m lt = elim (same_or_not n m) [
  | inl e ↦ inr e
  | inr apart ↦ inl (omega (arith, lt, apart))
]

-- what holds of each element below a place, and of the one at it, holds of each below the next
pub holds_more : {X : Type 0} (P : ℕ → X → Type 0) (xs : List X) (m : ℕ) (x : X) → ((n : ℕ) (y : X) → n < m → slice_get xs n ≡ Some y → P n y) → slice_get xs m ≡ Some x → P m x
    → (n : ℕ) (y : X) → n < m + 1 → slice_get xs n ≡ Some y → P n y
holds_more P xs m x before here is n y lt at = elim (below_or_at n m lt) [
  | inl less ↦ before n y less at
  | inr e ↦ subst (λ k. P k y) (sym e) (subst (P m) (one_some x y (sym here ∙ sym (ap (slice_get xs) e) ∙ at)) is)
]

-- of each element where the place is the length
pub holds_all : {X : Type 0} (P : ℕ → X → Type 0) (xs : List X) (m : ℕ) → length xs ≤ m → ((n : ℕ) (y : X) → n < m → slice_get xs n ≡ Some y → P n y) → (n : ℕ) (y : X) → slice_get xs n ≡ Some y → P n y
holds_all P xs m all before n y at = before n y (let a = slice_get_within xs n y at in omega (arith, a, all)) at
