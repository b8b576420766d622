-- The one site that is launched, and what it ends with.
use Rattle.std.proofs.Common.{◌≡◌, ◌++◌, List, [], ◌∷◌, Some, ap, arith, length, refl, slice_get}

-- a list of one element has that as its first
pub first_of_one : {E : Type 0} (xs : List E) → length xs ≡ 1 → (x : E) × (slice_get xs 0 ≡ Some x)
first_of_one [] one = absurd (omega (arith, one))
first_of_one (x ∷ xs) one = (x, refl)

-- an element that is pushed on an empty list is its first
pub first_pushed : {E : Type 0} (front all : List E) (x : E) → length front ≡ 0 → all ≡ front ++ x ∷ [] → slice_get all 0 ≡ Some x
first_pushed [] all x none is = ap (λ l. slice_get l 0) is
first_pushed (y ∷ front) all x none is = absurd (omega (arith, none))
