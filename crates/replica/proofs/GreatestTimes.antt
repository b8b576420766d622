-- The greatest number of a list's elements.
use Rattle.std.proofs.Common.{◌≡◌, ℕ, ◌+◌, ◌<◌, ◌≤◌, max, nat_eq, true, if◌then◌else◌, List, [], ◌∷◌, ◌++◌, length, get_or, take, map as each, refl, sym, ap, ◌∙◌, arith}
use Rattle.std.proofs.lemmas.List.{take_more}
use Rattle.std.specs.Ordering.{nat_cmp, ord_max}
use Rattle.std.proofs.lemmas.Bool.Decides.{nat_tests}
use Rattle.replica.specs.SiteViews.{greatest}

-- with one more at the end
greatest_push : {X : Type 0} (f : X → ℕ) (xs : List X) (x : X) → greatest f (xs ++ x ∷ []) ≡ max (greatest f xs) (f x)
greatest_push f [] x = omega arith
greatest_push f (y ∷ ys) x = let e = greatest_push f ys x in omega (arith, e)

-- of one more of a list's first elements
pub greatest_more : {X : Type 0} (f : X → ℕ) (xs : List X) (i : ℕ) (x : X) → i < length xs → x ≡ get_or xs i x
    → greatest f (take (i + 1) xs) ≡ max (greatest f (take i xs)) (f x)
greatest_more f xs i x l is =
    ap (greatest f) (take_more xs i x l ∙ ap (λ y. take i xs ++ y ∷ []) (sym is)) ∙ greatest_push f (take i xs) x

-- by the first of each pair it is that of the firsts
pub greatest_firsts : {X Y : Type 0} (f : X → ℕ) (ps : List (X × Y)) → greatest (λ p. f p.0) ps ≡ greatest f (each (λ p. p.0) ps)
greatest_firsts f [] = refl
greatest_firsts f (p ∷ ps) = ap (max (f p.0)) (greatest_firsts f ps)

-- the greater of two, as the program takes it
pub greater_of : (a b : ℕ) → ord_max nat_cmp a b ≡ max a b
greater_of a b = grind (arith, nat_tests)

-- a number of a site's own is the greater of it and one that isn't above it
pub own_latest : (site n last : ℕ) → last ≤ n → n ≡ max (if nat_eq site site then n else 0) last
own_latest site n last le = let same : nat_eq site site ≡ true = itself site in sym (ap (λ b. max (if b then n else 0) last) same ∙ omega arith)
  where
    itself : (n : ℕ) → nat_eq n n ≡ true
    itself n = grind (arith, nat_tests)
