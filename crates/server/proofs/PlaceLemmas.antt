-- What holds of the elements of a list and of their places, where an element comes or goes.
use Rattle.std.proofs.Common.{◌≡◌, ◌+◌, ℕ, zero, suc, List, [], ◌∷◌, ◌++◌, Some, length, length-append, slice_get, slice_index_or, subst, sym, arith}
use Rattle.std.proofs.Math.ListN.{get_or-append}
use Rattle.std.proofs.Math.Seq.{get_or-append_seam}
use Rattle.std.proofs.lemmas.Option.{slice_get-get_or}
use Rattle.launcher.specs.Places.{AtEach}

-- it holds where there is no element
pub each_none : {E : Type 0} (H : ℕ → E → Type 0) (xs : List E) → length xs ≡ 0 → AtEach H xs
each_none H xs none k x low = absurd (omega (arith, low, none))

-- each element is that of its place
pub each_itself : {E : Type 0} (xs : List E) → AtEach (λ k x. slice_get xs k ≡ Some x) xs
each_itself xs k none low = slice_get-get_or xs k none low

-- it holds of the last element, and of those before it
pub each_pop : {E : Type 0} (H : ℕ → E → Type 0) (all front : List E) (x : E) → all ≡ front ++ x ∷ [] → AtEach H all → AtEach H front × H (length front) x
each_pop H all front x is each = let whole = subst (AtEach H) is each in (
  (λ k none low. subst (H k) (get_or-append front (x ∷ []) none k low) (whole k none (omega (arith, low, length-append front (x ∷ []))))),
  subst (H (length front)) (get_or-append_seam front x [] x) (whole (length front) x (omega (arith, length-append front (x ∷ [])))),
)

-- places are counted from 0
pub each_from : {E : Type 0} (H : ℕ → E → Type 0) (xs : List E) (place : ℕ) → place ≡ 0 → AtEach (λ k y. H (place + k) y) xs → AtEach H xs
each_from H xs place zeroth each k none low = subst (λ n. H n (slice_index_or xs k none)) (omega (arith, zeroth)) (each k none low)

-- it holds of an element that is put in front, and of the others one place behind
pub each_front : {E : Type 0} (H : ℕ → E → Type 0) (xs all : List E) (x : E) (place : ℕ) → all ≡ x ∷ xs → AtEach (λ k y. H (place + 1 + k) y) xs → H place x → AtEach (λ k y. H (place + k) y) all
each_front {E} H xs all x place is each first = subst (AtEach (λ k y. H (place + k) y)) (sym is) at
  where
    at : AtEach (λ k y. H (place + k) y) (x ∷ xs)
    at zero none low = subst (λ n. H n x) (omega arith) first
    at (suc k) none low = subst (λ n. H n (slice_index_or xs k none)) (omega arith) (each k none (omega (arith, low)))
