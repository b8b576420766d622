-- Prefixes of one list.
use Rattle.std.proofs.Common.{◌≡◌, ◌∙◌, ℕ, zero, suc, ◌<◌, ◌≤◌, List, [], ◌∷◌, ◌++◌, length, Some, slice_get, refl, sym, arith, ⊎_elim}
use Rattle.std.proofs.lemmas.Bool.{cases_lt}
use mathlib.Core.List.{IsPrefix}

-- of two prefixes of one list the longer begins with the shorter
pub prefix_shorter : {A : Type 0} (xs ys zs : List A) → IsPrefix xs zs → IsPrefix ys zs → length xs ≤ length ys → IsPrefix xs ys
prefix_shorter [] ys zs p q le = (ys, refl)
prefix_shorter (x ∷ xs) [] zs p q le = absurd (omega arith)
prefix_shorter (x ∷ xs) (y ∷ ys) [] p q le = absurd (cc (p.1))
prefix_shorter (x ∷ xs) (y ∷ ys) (z ∷ zs) p q le =
    let heads : x ≡ y = cc (p.1, q.1) in
    let rest = prefix_shorter xs ys zs (p.0, cc (p.1)) (q.0, cc (q.1)) (omega arith) in
    (rest.0, cc (heads, rest.1))

-- a prefix as long as the whole is the whole
pub prefix_whole : {A : Type 0} (xs ys : List A) → IsPrefix xs ys → length ys ≤ length xs → xs ≡ ys
prefix_whole [] [] p le = refl
prefix_whole [] (y ∷ ys) p le = absurd (omega arith)
prefix_whole (x ∷ xs) [] p le = absurd (cc (p.1))
prefix_whole (x ∷ xs) (y ∷ ys) p le =
    let rest = prefix_whole xs ys (p.0, cc (p.1)) (omega arith) in cc (p.1, rest)

-- what stands in a prefix stands in the whole, at the same place
prefix_get : {A : Type 0} (xs ys : List A) (k : ℕ) (x : A) → IsPrefix xs ys → slice_get xs k ≡ Some x → slice_get ys k ≡ Some x
prefix_get [] ys k x p h = absurd cc
prefix_get (y ∷ xs) [] k x p h = absurd (cc (p.1))
prefix_get (y ∷ xs) (z ∷ ys) zero x p h = cc (p.1, h)
prefix_get (y ∷ xs) (z ∷ ys) (suc k) x p h = prefix_get xs ys k x (p.0, cc (p.1)) h

prefix_back : {A : Type 0} (xs ys : List A) (k : ℕ) → IsPrefix xs ys → k < length xs → slice_get ys k ≡ slice_get xs k
prefix_back [] ys k p low = absurd (omega (arith, low))
prefix_back (y ∷ xs) [] k p low = absurd (cc (p.1))
prefix_back (y ∷ xs) (z ∷ ys) zero p low = cc (p.1)
prefix_back (y ∷ xs) (z ∷ ys) (suc k) p low = prefix_back xs ys k (p.0, cc (p.1)) (omega (arith, low))

-- of two prefixes of one list one has what the other has, as far as it goes
pub either_get : {A : Type 0} (xs ys : List A) (k : ℕ) (x : A) → (length xs ≤ length ys → IsPrefix xs ys) → (length ys ≤ length xs → IsPrefix ys xs) → k < length ys
    → slice_get xs k ≡ Some x → slice_get ys k ≡ Some x
either_get xs ys k x this that low got = ⊎_elim (λ below. prefix_get xs ys k x (this (omega (arith, below))) got)
    (λ above. sym (prefix_back ys xs k (that (omega (arith, above))) low) ∙ got) (cases_lt (length xs) (length ys))

-- the last element of a list that is one longer
pub last_get : {A : Type 0} (xs : List A) (x : A) → slice_get (xs ++ x ∷ []) (length xs) ≡ Some x
last_get [] x = refl
last_get (y ∷ xs) x = last_get xs x
