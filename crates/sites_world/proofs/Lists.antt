-- Elements of lists by their places, and lists that correspond.
use Rattle.std.proofs.Common.{◌≡◌, ◌<◌, ◌≤◌, ◌+◌, ◌⊎◌, inl, inr, ℕ, Bool, true, false, nat_lt, zero, suc, List, [], ◌∷◌, ◌++◌, length, replicate, get_or, slice_get, slice_set, Contains, Option, Some, None, refl, sym, ap, subst, ◌∙◌, arith}
use Rattle.std.proofs.lemmas.Bool.Decides.{nat_tests}
use Rattle.std.proofs.lemmas.List.{get_or-replicate, length-append, length-replicate, length-set, set-get_or}
use Rattle.std.proofs.lemmas.List.Elements.{Contains-get_or}
use Rattle.std.proofs.lemmas.Option.{get_or_from_slice_get, slice_get-get_or, slice_get_past, slice_get_within}
use Rattle.sites_world.specs.WorldStates.{Correspond}

-- nothing is something
pub none_some : {X : Type 0} (x : X) → None ≡ Some x → ⊥
none_some x h = (cc)

-- what is something is one
pub one_some : {X : Type 0} (x y : X) → Some x ≡ Some y → x ≡ y
one_some x y h = cc

-- what isn't less is at least as great
pub at_least : (a b : ℕ) → (a < b → ⊥) → b ≤ a
at_least a b not_less = elim cases [ inl less ↦ absurd (not_less less) | inr past ↦ past ]
  where
    cases : (a < b) ⊎ (b ≤ a)
    cases = grind arith

-- ---- places

-- a place is this one, or another
pub same_place : (at place : ℕ) → (place ≡ at) ⊎ (place ≡ at → ⊥)
same_place at place = grind arith

-- the element at a place is in the list
pub place_in : {X : Type 0} (xs : List X) (i : ℕ) (x : X) → slice_get xs i ≡ Some x → Contains xs x
place_in xs i x h =
    let within = slice_get_within xs i x h in subst (Contains xs) (get_or_from_slice_get xs i x x h) (Contains-get_or xs i x within)

-- the element that was put at a place is there
pub get_set_same : {X : Type 0} (xs : List X) (i : ℕ) (x : X) → i < length xs → slice_get (slice_set xs i x) i ≡ Some x
get_set_same [] i x h = absurd (omega (arith, h))
get_set_same (y ∷ ys) zero x h = refl
get_set_same (y ∷ ys) (suc i) x h = get_set_same ys i x (omega (arith, h))

-- the elements at other places stay
pub get_set_other : {X : Type 0} (xs : List X) (i j : ℕ) (x : X) → (j ≡ i → ⊥) → slice_get (slice_set xs i x) j ≡ slice_get xs j
get_set_other [] i j x apart = refl
get_set_other (y ∷ ys) zero zero x apart = absurd (apart refl)
get_set_other (y ∷ ys) zero (suc j) x apart = refl
get_set_other (y ∷ ys) (suc i) zero x apart = refl
get_set_other (y ∷ ys) (suc i) (suc j) x apart = get_set_other ys i j x (λ e. apart (ap suc e))

-- the element that is at a place, put there again, changes nothing
pub set_again : {X : Type 0} (xs : List X) (i : ℕ) (x : X) → slice_get xs i ≡ Some x → slice_set xs i x ≡ xs
set_again xs i x is = ap (slice_set xs i) (sym (get_or_from_slice_get xs i x x is)) ∙ set-get_or xs i x

-- each element of equal ones is the one
pub get_replicate : {X : Type 0} (n : ℕ) (x : X) (i : ℕ) (y : X) → slice_get (replicate n x) i ≡ Some y → y ≡ x
get_replicate n x i y h =
    let within = slice_get_within (replicate n x) i y h in
    let many = length-replicate n x in
    sym (get_or_from_slice_get (replicate n x) i y x h) ∙ get_or-replicate n i x x (omega (arith, within, many))

-- an element of a list with one more is one of the list, or the last
pub get_push : {X : Type 0} (xs : List X) (y : X) (i : ℕ) (z : X) → slice_get (xs ++ y ∷ []) i ≡ Some z → ((slice_get xs i ≡ Some z) × (i < length xs)) ⊎ ((i ≡ length xs) × (z ≡ y))
get_push [] y zero z h = inr (refl, sym (one_some y z h))
get_push [] y (suc i) z h = absurd (none_some z h)
get_push (x ∷ xs) y zero z h = inl (h, omega arith)
get_push (x ∷ xs) y (suc i) z h = elim (get_push xs y i z h) [
  | inl p ↦ inl (p.0, let lt = p.1 in omega (arith, lt))
  | inr p ↦ inr (ap suc p.0, p.1)
]

-- within a list there is an element
pub some_within : {X : Type 0} (xs : List X) (i : ℕ) → i < length xs → slice_get xs i ≡ None → ⊥
some_within [] i within none = omega (arith, within)
some_within (x ∷ xs) zero within none = none_some x (sym none)
some_within (x ∷ xs) (suc i) within none = some_within xs i (omega (arith, within)) none

-- ---- lists that correspond

module _ {X Y : Type 0} (R : ℕ → X → Y → Type 0) (xs : List X) (ys : List Y) (c : Correspond R xs ys) where
  -- an element has one that corresponds to it
  pub correspond_get : (i : ℕ) (x : X) → slice_get xs i ≡ Some x → (y : Y) × (slice_get ys i ≡ Some y) × R i x y
  correspond_get i x h = by (slice_get ys i) refl
    where
      within : i < length ys
      within = let lt = slice_get_within xs i x h in let same = c.lengths in omega (arith, lt, same)

      past : slice_get ys i ≡ None → ⊥
      past e = none_some (get_or ys i (get_some ys within)) (sym e ∙ slice_get-get_or ys i (get_some ys within) within)
        where
          get_some : (zs : List Y) → i < length zs → Y
          get_some [] lt = absurd (omega (arith, lt))
          get_some (z ∷ zs) lt = z

      by : (o : Option Y) → slice_get ys i ≡ o → (y : Y) × (slice_get ys i ≡ Some y) × R i x y
      by None e = absurd (past e)
      by (Some y) e = (y, e, c.each i x y h e)

  -- where one list has no element, the corresponding one has none
  pub correspond_none : (i : ℕ) → length xs ≤ i → slice_get ys i ≡ None
  correspond_none i past = slice_get_past ys i (let same = c.lengths in omega (arith, past, same))

  pub correspond_none_get : (i : ℕ) → slice_get xs i ≡ None → slice_get ys i ≡ None
  correspond_none_get i none = by (nat_lt i (length xs)) refl
    where
      by : (b : Bool) → nat_lt i (length xs) ≡ b → slice_get ys i ≡ None
      by true e = absurd (some_within xs i (grind (arith, nat_tests, e)) none)
      by false e = correspond_none i (grind (arith, nat_tests, e))

  -- elements that correspond are put in
  pub correspond_set : (i : ℕ) (x : X) (y : Y) → i < length xs → R i x y → Correspond R (slice_set xs i x) (slice_set ys i y)
  correspond_set i x y within holds = record {
    lengths = length-set xs i x ∙ c.lengths ∙ sym (length-set ys i y);
    each = λ j a b ha hb. at j a b ha hb (same_place j);
  }
    where
      same_place : (j : ℕ) → (j ≡ i) ⊎ (j ≡ i → ⊥)
      same_place j = grind arith

      at : (j : ℕ) (a : X) (b : Y) → slice_get (slice_set xs i x) j ≡ Some a → slice_get (slice_set ys i y) j ≡ Some b → ((j ≡ i) ⊎ (j ≡ i → ⊥)) → R j a b
      at j a b ha hb (inl e) =
          let first : x ≡ a = one_some x a (sym (get_set_same xs i x within) ∙ ap (slice_get (slice_set xs i x)) (sym e) ∙ ha) in
          let second : y ≡ b = one_some y b (sym (get_set_same ys i y (let same = c.lengths in omega (arith, within, same))) ∙ ap (slice_get (slice_set ys i y)) (sym e) ∙ hb) in
          subst (λ n. R n a b) (sym e) (subst (λ u. R i u b) first (subst (R i x) second holds))
      at j a b ha hb (inr apart) = c.each j a b (sym (get_set_other xs i j x apart) ∙ ha) (sym (get_set_other ys i j y apart) ∙ hb)

  -- corresponding elements are appended
  pub correspond_push : (x : X) (y : Y) → R (length xs) x y → Correspond R (xs ++ x ∷ []) (ys ++ y ∷ [])
  correspond_push x y holds = record {
    lengths = length-append xs (x ∷ []) ∙ ap (λ n. n + 1) c.lengths ∙ sym (length-append ys (y ∷ []));
    each = λ j a b ha hb. at j a b (get_push xs x j a ha) (get_push ys y j b hb);
  }
    where
      at : (j : ℕ) (a : X) (b : Y) → (((slice_get xs j ≡ Some a) × (j < length xs)) ⊎ ((j ≡ length xs) × (a ≡ x))) → (((slice_get ys j ≡ Some b) × (j < length ys)) ⊎ ((j ≡ length ys) × (b ≡ y))) → R j a b
      at j a b (inl p) (inl q) = c.each j a b p.0 q.0
      at j a b (inl p) (inr q) = absurd (let lt = p.1 in let is = q.0 in let same = c.lengths in omega (arith, lt, is, same))
      at j a b (inr p) (inl q) = absurd (let is = p.0 in let lt = q.1 in let same = c.lengths in omega (arith, lt, is, same))
      at j a b (inr p) (inr q) = subst (λ n. R n a b) (sym p.0) (subst (λ u. R (length xs) u b) (sym p.1) (subst (R (length xs) x) (sym q.1) holds))
