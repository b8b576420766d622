-- What lists contain that are filtered, mapped or put together, and tests of what they contain.
use Rattle.std.proofs.Common.{◌≡◌, ℕ, ◌<◌, Bool, true, false, cond, ◌||◌, ◌⊎◌, inl, inr, List, [], ◌∷◌, slice_index_or, Contains, Option, Some, None, refl, sym, ap, subst, ◌∙◌, arith, true≢false, map, is_some}
use Rattle.std.specs.List.{list_any, flat_map, filter_map, find, cons_option}
use Rattle.std.proofs.lemmas.List.Elements.{Contains-get_or, Contains-append_left, Contains-append_right, Contains-append_cases}
use Rattle.std.proofs.lemmas.List.Folds.{list_any-append}
use Rattle.std.proofs.Math.Bool.{or-true}

pub first_in : {X : Type 0} (x : X) (xs : List X) → Contains (x ∷ xs) x
first_in x xs = Contains-get_or (x ∷ xs) 0 x (omega arith)

pub later_in : {X : Type 0} (x : X) (xs : List X) (y : X) → Contains xs y → Contains (x ∷ xs) y
later_in x xs y h = Contains-append_right (x ∷ []) xs y h

pub nothing_in : {X : Type 0} (y : X) → Contains [] y → ⊥
nothing_in y h = omega (arith, h.1)

pub only_in : {X : Type 0} (x y : X) → Contains (x ∷ []) y → x ≡ y
only_in x y (i, within, is) = at i within is
  where
    at : (i : ℕ) → i < 1 → slice_index_or (x ∷ []) i y ≡ y → x ≡ y
    at i within is = let zero_is : i ≡ 0 = omega arith in sym (ap (λ n. slice_index_or (x ∷ []) n y) zero_is) ∙ is

pub cases_in : {X : Type 0} (x : X) (xs : List X) (y : X) → Contains (x ∷ xs) y → (x ≡ y) ⊎ Contains xs y
cases_in x xs y h = elim (Contains-append_cases (x ∷ []) xs y h) [ inl p ↦ inl (only_in x y p) | inr p ↦ inr p ]

-- a test that one of the elements passes
pub any_in : {X : Type 0} (p : X → Bool) (xs : List X) (x : X) → Contains xs x → p x ≡ true → list_any p xs ≡ true
any_in p [] x h q = absurd (nothing_in x h)
any_in p (y ∷ ys) x h q = elim (cases_in y ys x h) [
  | inl e ↦ ap (λ b. b || list_any p ys) (ap p e ∙ q)
  | inr r ↦ ap (λ b. p y || b) (any_in p ys x r q) ∙ or-true (p y)
]

-- an element that passes a test, where one does
pub in_any : {X : Type 0} (p : X → Bool) (xs : List X) → list_any p xs ≡ true → (x : X) × Contains xs x × (p x ≡ true)
in_any p [] h = absurd (true≢false (sym h))
in_any {X} p (x ∷ xs) h = by (p x) refl (in_any p xs) h
  where
    by : (b : Bool) → p x ≡ b → (list_any p xs ≡ true → (y : X) × Contains xs y × (p y ≡ true)) → (b || list_any p xs) ≡ true → (y : X) × Contains (x ∷ xs) y × (p y ≡ true)
    by true e rest h = (x, first_in x xs, e)
    by false e rest h = let r = rest h in (r.0, later_in x xs r.0 r.1, r.2)

pub some_in : {X Y : Type 0} (f : X → Option Y) (xs : List X) (x : X) (y : Y) → Contains xs x → f x ≡ Some y → Contains (filter_map f xs) y
some_in f [] x y h e = absurd (nothing_in x h)
some_in {Y = Y} f (z ∷ zs) x y h e = elim (cases_in z zs x h) [
  | inl p ↦ subst (λ o. Contains (cons_option o (filter_map f zs)) y) (sym (ap f p ∙ e)) (first_in y (filter_map f zs))
  | inr r ↦ rest (f z) (some_in f zs x y r e)
]
  where
    rest : (o : Option Y) → Contains (filter_map f zs) y → Contains (cons_option o (filter_map f zs)) y
    rest None h = h
    rest (Some w) h = later_in w (filter_map f zs) y h

pub in_some : {X Y : Type 0} (f : X → Option Y) (xs : List X) (y : Y) → Contains (filter_map f xs) y → (x : X) × Contains xs x × (f x ≡ Some y)
in_some f [] y h = absurd (nothing_in y h)
in_some {X} {Y} f (x ∷ xs) y h = by (f x) refl (in_some f xs y) h
  where
    deeper : ((z : X) × Contains xs z × (f z ≡ Some y)) → (z : X) × Contains (x ∷ xs) z × (f z ≡ Some y)
    deeper r = (r.0, later_in x xs r.0 r.1, r.2)

    by : (o : Option Y) → f x ≡ o → (Contains (filter_map f xs) y → (z : X) × Contains xs z × (f z ≡ Some y)) → Contains (cons_option o (filter_map f xs)) y → (z : X) × Contains (x ∷ xs) z × (f z ≡ Some y)
    by None e tail h = deeper (tail h)
    by (Some w) e tail h = elim (cases_in w (filter_map f xs) y h) [
      | inl p ↦ (x, first_in x xs, e ∙ ap Some p)
      | inr r ↦ deeper (tail r)
    ]

pub part_in : {X Y : Type 0} (f : X → List Y) (xs : List X) (x : X) (y : Y) → Contains xs x → Contains (f x) y → Contains (flat_map f xs) y
part_in f [] x y h k = absurd (nothing_in x h)
part_in f (z ∷ zs) x y h k = elim (cases_in z zs x h) [
  | inl p ↦ Contains-append_left (f z) (flat_map f zs) y (subst (λ w. Contains (f w) y) (sym p) k)
  | inr r ↦ Contains-append_right (f z) (flat_map f zs) y (part_in f zs x y r k)
]

pub in_part : {X Y : Type 0} (f : X → List Y) (xs : List X) (y : Y) → Contains (flat_map f xs) y → (x : X) × Contains xs x × Contains (f x) y
in_part f [] y h = absurd (nothing_in y h)
in_part f (x ∷ xs) y h = elim (Contains-append_cases (f x) (flat_map f xs) y h) [
  | inl p ↦ (x, first_in x xs, p)
  | inr r ↦ let s = in_part f xs y r in (s.0, later_in x xs s.0 s.1, s.2)
]

-- a test over a list put together
pub any_flat_map : {X Y : Type 0} (p : Y → Bool) (f : X → List Y) (xs : List X) → list_any p (flat_map f xs) ≡ list_any (λ x. list_any p (f x)) xs
any_flat_map p f [] = refl
any_flat_map p f (x ∷ xs) = list_any-append p (f x) (flat_map f xs) ∙ ap (λ b. list_any p (f x) || b) (any_flat_map p f xs)

pub any_map : {X Y : Type 0} (p : Y → Bool) (f : X → Y) (xs : List X) → list_any p (map f xs) ≡ list_any (λ x. p (f x)) xs
any_map p f [] = refl
any_map p f (x ∷ xs) = ap (λ b. p (f x) || b) (any_map p f xs)

-- what is found is in the list, and passes
pub in_find : {X : Type 0} (p : X → Bool) (xs : List X) (x : X) → find p xs ≡ Some x → Contains xs x × (p x ≡ true)
in_find p [] x h = (cc)
in_find {X} p (y ∷ ys) x h = by (p y) refl (in_find p ys x) h
  where
    same : Some y ≡ Some x → y ≡ x
    same e = cc

    by : (b : Bool) → p y ≡ b → (find p ys ≡ Some x → Contains ys x × (p x ≡ true)) → cond b (Some y) (find p ys) ≡ Some x → Contains (y ∷ ys) x × (p x ≡ true)
    by true e tail h = (subst (Contains (y ∷ ys)) (same h) (first_in y ys), sym (ap p (same h)) ∙ e)
    by false e tail h = let r = tail h in (later_in y ys x r.0, r.1)

pub some_find : {X : Type 0} (p : X → Bool) (xs : List X) → is_some (find p xs) ≡ list_any p xs
some_find p [] = refl
some_find p (x ∷ xs) = by (p x) (some_find p xs)
  where
    by : (b : Bool) → is_some (find p xs) ≡ list_any p xs → is_some (cond b (Some x) (find p xs)) ≡ (b || list_any p xs)
    by true rest = refl
    by false rest = rest

-- two tests that are true of the same things are one
pub same_tests : (a b : Bool) → (a ≡ true → b ≡ true) → (b ≡ true → a ≡ true) → a ≡ b
same_tests true b f g = sym (f refl)
same_tests false true f g = g refl
same_tests false false f g = refl
