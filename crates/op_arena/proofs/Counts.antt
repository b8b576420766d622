-- Reads and counts of a list that is changed at one place.
use Rattle.std.proofs.Common.{◌≡◌, ℕ, zero, suc, ◌+◌, ◌<◌, Bool, cond, List, [], ◌∷◌, ◌++◌, length, slice_get, slice_set, Some, None, refl, ap, arith}
use Rattle.op_arena.specs.Slots.{count}

module _ {X : Type 0} where
  pub get_set_same : (xs : List X) (i : ℕ) (y : X) → i < length xs → slice_get (slice_set xs i y) i ≡ Some y
  get_set_same [] i y lt = absurd (omega arith)
  get_set_same (x ∷ xs) zero y lt = refl
  get_set_same (x ∷ xs) (suc i) y lt = get_set_same xs i y (omega arith)

  pub get_set_other : (xs : List X) (i k : ℕ) (y : X) → (i ≡ k → ⊥) → slice_get (slice_set xs i y) k ≡ slice_get xs k
  get_set_other [] i k y other = refl
  get_set_other (x ∷ xs) zero zero y other = absurd (other refl)
  get_set_other (x ∷ xs) zero (suc k) y other = refl
  get_set_other (x ∷ xs) (suc i) zero y other = refl
  get_set_other (x ∷ xs) (suc i) (suc k) y other = get_set_other xs i k y (λ e. other (ap suc e))

  pub get_push_same : (xs : List X) (y : X) → slice_get (xs ++ y ∷ []) (length xs) ≡ Some y
  get_push_same [] y = refl
  get_push_same (x ∷ xs) y = get_push_same xs y

  pub get_push_other : (xs : List X) (k : ℕ) (y : X) → (length xs ≡ k → ⊥) → slice_get (xs ++ y ∷ []) k ≡ slice_get xs k
  get_push_other [] zero y other = absurd (other refl)
  get_push_other [] (suc k) y other = refl
  get_push_other (x ∷ xs) zero y other = refl
  get_push_other (x ∷ xs) (suc k) y other = get_push_other xs k y (λ e. other (ap suc e))

  pub get_end : (xs : List X) → slice_get xs (length xs) ≡ None
  get_end [] = refl
  get_end (x ∷ xs) = get_end xs

  abbrev pub weight : (X → Bool) → X → ℕ
  weight p x = cond (p x) 1 0

  pub count_set : (p : X → Bool) (xs : List X) (i : ℕ) (x y : X) → slice_get xs i ≡ Some x → count p (slice_set xs i y) + weight p x ≡ count p xs + weight p y
  count_set p [] i x y e = cc
  count_set p (z ∷ xs) zero x y e = let same : z ≡ x = cc in let tie : weight p z ≡ weight p x = ap (weight p) same in omega (arith, tie)
  count_set p (z ∷ xs) (suc i) x y e = omega (arith, count_set p xs i x y e)

  pub count_push : (p : X → Bool) (xs : List X) (y : X) → count p (xs ++ y ∷ []) ≡ count p xs + weight p y
  count_push p [] y = omega arith
  count_push p (x ∷ xs) y = omega (arith, count_push p xs y)
