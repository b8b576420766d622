-- How many elements pass tests that are put together, and how many dots a set has.
use Rattle.std.proofs.Common.{◌≡◌, ℕ, suc, zero, ◌+◌, ◌<◌, Bool, true, false, not, cond, ◌&&◌, ◌||◌, List, [], ◌∷◌, length, get_or, take, filter, refl, sym, ap, ◌∙◌, arith, true≢false, inl, inr}
use Rattle.std.specs.List.{count_by, list_any}
use Rattle.std.specs.Ordering.{eq_by_cmp}
use Rattle.std.specs.FinSet as set
use Rattle.std.proofs.lemmas.Bool.{cases_Bool, or_from}
use Rattle.std.proofs.lemmas.List.{take_more}
use Rattle.std.proofs.lemmas.List.Sums.{sum_by-cons}
use Rattle.std.proofs.lemmas.List.Elements.{Contains-get_or}
use Rattle.std.proofs.lemmas.List.Folds.{list_any-append}
use Rattle.std.proofs.Math.Bool.{or-false}
use Rattle.dots.specs.Values.{Dot}
use Rattle.dots.specs.Orders.{dot_cmp}
use Rattle.dots.specs.DotSets.{AreApart, Run, in_run, in_runs}
use Rattle.dots.proofs.Apart.{rest_misses}
use Rattle.dots.proofs.DotOrder.{dots_total}
use Rattle.general_lemmas.proofs.Membership.{any_in}

module _ {X : Type 0} where
  count_cons : (p : X → Bool) (x : X) (xs : List X) → count_by p (x ∷ xs) ≡ cond (p x) 1 0 + count_by p xs
  count_cons p x xs = sum_by-cons (λ y. cond (p y) 1 0) x xs

  -- of two tests of which no element passes both
  pub count_either : (a b : X → Bool) → ((x : X) → b x ≡ true → a x ≡ false) → (xs : List X) → count_by (λ x. a x || b x) xs ≡ count_by a xs + count_by b xs
  count_either a b never [] = refl
  count_either a b never (x ∷ xs) =
      count_cons (λ y. a y || b y) x xs ∙ split (a x) (b x) (never x) _ _ _ (count_either a b never xs) ∙ (λ i. sym (count_cons a x xs) i + sym (count_cons b x xs) i)
    where
      split : (p q : Bool) → (q ≡ true → p ≡ false) → (k m n : ℕ) → k ≡ m + n → cond (p || q) 1 0 + k ≡ (cond p 1 0 + m) + (cond q 1 0 + n)
      split true true f k m n h = absurd (true≢false (f refl))
      split true false f k m n h = omega (arith, h)
      split false true f k m n h = omega (arith, h)
      split false false f k m n h = omega (arith, h)

  -- of those that pass one test
  pub count_filter : (p q : X → Bool) (xs : List X) → count_by q (filter p xs) ≡ count_by (λ x. p x && q x) xs
  count_filter p q [] = refl
  count_filter p q (x ∷ xs) = split (p x) (count_filter p q xs) ∙ sym (count_cons (λ y. p y && q y) x xs)
    where
      split : (b : Bool) → count_by q (filter p xs) ≡ count_by (λ y. p y && q y) xs → count_by q (cond b (x ∷ filter p xs) (filter p xs)) ≡ cond (b && q x) 1 0 + count_by (λ y. p y && q y) xs
      split true h = count_cons q x (filter p xs) ∙ ap (λ n. cond (q x) 1 0 + n) h
      split false h = omega (arith, h)

  -- of a test and its contrary
  pub count_not : (p : X → Bool) (xs : List X) → count_by p xs + count_by (λ x. not (p x)) xs ≡ length xs
  count_not p [] = refl
  count_not p (x ∷ xs) = (λ i. count_cons p x xs i + count_cons (λ y. not (p y)) x xs i) ∙ split (p x) _ _ _ (count_not p xs)
    where
      split : (b : Bool) (m n k : ℕ) → m + n ≡ k → (cond b 1 0 + m) + (cond (not b) 1 0 + n) ≡ suc k
      split true m n k h = omega (arith, h)
      split false m n k h = omega (arith, h)

  -- tests that agree
  pub count_same : (p q : X → Bool) → ((x : X) → p x ≡ q x) → (xs : List X) → count_by p xs ≡ count_by q xs
  count_same p q e xs = ap (λ f. count_by f xs) (λ i x. e x i)

-- a dot of a run is in none of those before it
pub earlier_misses : (runs : List Run) (i : ℕ) (x : Run) (d : Dot) → AreApart runs → i < length runs → in_run d (get_or runs i x) ≡ true → in_runs (take i runs) d ≡ false
earlier_misses [] i x d a l h = absurd (omega arith)
earlier_misses (r ∷ rs) zero x d a l h = refl
earlier_misses (r ∷ rs) (suc i) x d a l h = or_from (in_run d r) (in_runs (take i rs) d) first (earlier_misses rs i x d a.2 (omega arith) h)
  where
    first : in_run d r ≡ false
    first = elim (cases_Bool (in_run d r)) [
      | inl t ↦ absurd (true≢false (sym (any_in (in_run d) rs (get_or rs i x) (Contains-get_or rs i x (omega arith)) h) ∙ rest_misses d r rs a.1 t))
      | inr f ↦ f
    ]

-- runs with one more
pub runs_more : (runs : List Run) (i : ℕ) (x : Run) (d : Dot) → i < length runs → in_runs (take (i + 1) runs) d ≡ (in_runs (take i runs) d || in_run d (get_or runs i x))
runs_more runs i x d l = ap (list_any (in_run d)) (take_more runs i x l) ∙ list_any-append (in_run d) (take i runs) (get_or runs i x ∷ []) ∙ ap (λ b. in_runs (take i runs) d || b) (or-false (in_run d (get_or runs i x)))

-- dots put into a set one by one, from the last on
abbrev pub add : set.FinSet dot_cmp → List Dot → set.FinSet dot_cmp
add s [] = s
add s (d ∷ ds) = set.insert (add s ds) d

pub contains_add : (s : set.FinSet dot_cmp) (ds : List Dot) (q : Dot) → set.contains (add s ds) q ≡ (list_any (eq_by_cmp dot_cmp q) ds || set.contains s q)
contains_add s [] q = refl
contains_add s (d ∷ ds) q = set.contains-insert dots_total (add s ds) d q ∙ ap (λ b. eq_by_cmp dot_cmp q d || b) (contains_add s ds q) ∙ or_assoc (eq_by_cmp dot_cmp q d) _ _
  where
    or_assoc : (a b c : Bool) → (a || (b || c)) ≡ ((a || b) || c)
    or_assoc true b c = refl
    or_assoc false b c = refl

-- each of them differs from those that follow, and from those of a set
abbrev pub AreNew : set.FinSet dot_cmp → List Dot → Type 0
AreNew s [] = Unit {0}
AreNew s (d ∷ ds) = (list_any (eq_by_cmp dot_cmp d) ds ≡ false) × (set.contains s d ≡ false) × AreNew s ds

-- a set has as many more dots as are new
pub len_add : (s : set.FinSet dot_cmp) (ds : List Dot) → AreNew s ds → set.len (add s ds) ≡ set.len s + length ds
len_add s [] new = omega arith
len_add s (d ∷ ds) new =
    set.len-insert dots_total (add s ds) d
    ∙ ap (λ b. cond b (set.len (add s ds)) (set.len (add s ds) + 1)) (contains_add s ds d ∙ or_from _ _ new.0 new.1)
    ∙ ap (λ n. n + 1) (len_add s ds new.2) ∙ omega arith
