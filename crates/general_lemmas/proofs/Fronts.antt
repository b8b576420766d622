-- Two lists that are walked together: what is left from a place on, and which side has an element there.
use Rattle.std.proofs.Common.{◌≡◌, ℕ, ◌+◌, ◌≤◌, ◌<◌, List, [], ◌∷◌, ◌++◌, length, get_or, drop, take, refl, sym, ap, ◌∙◌, arith}
use Rattle.std.specs.declared.cmp.Ordering.{Ordering}
use Rattle.std.specs.declared.cmp.Ordering.TheVariants.{Less, Equal, Greater}
use Rattle.std.proofs.lemmas.List.{drop_all, drop_at, drop_more, length-drop, take-append-le, take-take, take_at}
use Rattle.general_lemmas.specs.Fronts.{next_by}

module _ {X : Type 0} where
  -- what is left from a place on begins with the element at the place
  pub open_at : (xs : List X) (i : ℕ) (x : X) → i < length xs → x ≡ get_or xs i x → drop i xs ≡ x ∷ drop (i + 1) xs
  open_at xs i x l e = drop_more xs i x l ∙ ap (λ y. y ∷ drop (i + 1) xs) (sym e)

  -- the others in front, then all that was there
  pub turned : (old xs ys : List X) (n : ℕ) → n ≡ length old → ys ≡ drop n (old ++ xs) ++ take n (old ++ xs) → drop (length xs) ys ≡ old
  turned old xs ys n k e =
      ap (drop (length xs)) (e ∙ (λ i. drop_at old xs n (sym k) i ++ take_at old xs n (sym k) i)) ∙ drop_at xs old (length xs) refl

  -- what is taken of a list that was written back
  pub written_back : (k n : ℕ) (xs ys : List X) → k ≤ length xs → k ≤ n → take k (take n (xs ++ ys)) ≡ take k xs
  written_back k n xs ys a b = take-take k n (xs ++ ys) b ∙ take-append-le k xs ys a

module _ {X : Type 0} (order : X → X → Ordering) where
  -- a side that has the least element has one
  less_left : (xs ys : List X) → Less ≡ next_by order xs ys → 0 < length xs
  less_left [] ys h = absurd (cc)
  less_left (x ∷ xs) ys h = omega arith

  greater_left : (xs ys : List X) → Greater ≡ next_by order xs ys → 0 < length xs + length ys → 0 < length ys
  greater_left xs (y ∷ ys) h l = omega arith
  greater_left [] [] h l = absurd (omega arith)
  greater_left (x ∷ xs) [] h l = absurd (cc)

  equal_left : (xs ys : List X) → Equal ≡ next_by order xs ys → (0 < length xs) × (0 < length ys)
  equal_left [] ys h = absurd (cc)
  equal_left (x ∷ xs) [] h = absurd (cc)
  equal_left (x ∷ xs) (y ∷ ys) h = (omega arith, omega arith)

  pub less_within : (xs ys : List X) (i : ℕ) → Less ≡ next_by order (drop i xs) ys → i < length xs
  less_within xs ys i h = let l = less_left (drop i xs) ys h in omega (arith, l, length-drop i xs)

  pub greater_within : (xs ys : List X) (i j : ℕ) → i ≤ length xs → j ≤ length ys → i + j < length xs + length ys → Greater ≡ next_by order (drop i xs) (drop j ys) → j < length ys
  greater_within xs ys i j p q l h = let m = greater_left (drop i xs) (drop j ys) h (omega (arith, length-drop i xs, length-drop j ys)) in omega (arith, m, length-drop j ys)

  pub equal_within : (xs ys : List X) (i j : ℕ) → Equal ≡ next_by order (drop i xs) (drop j ys) → (i < length xs) × (j < length ys)
  equal_within xs ys i j h = let m = equal_left (drop i xs) (drop j ys) h in (omega (arith, m.0, length-drop i xs), omega (arith, m.1, length-drop j ys))

  -- where the other side is at its end, this one has the least
  nothing_there : (xs : List X) → 0 < length xs → Less ≡ next_by order xs []
  nothing_there [] l = absurd (omega arith)
  nothing_there (x ∷ xs) l = refl

  pub none_there : (xs ys : List X) (i j : ℕ) → i < length xs → length ys ≤ j → Less ≡ next_by order (drop i xs) (drop j ys)
  none_there xs ys i j l e = nothing_there (drop i xs) (omega (arith, length-drop i xs)) ∙ ap (next_by order (drop i xs)) (sym (drop_all j ys e))
