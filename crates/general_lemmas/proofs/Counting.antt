-- How sets count against each other, whatever their elements are.
use Rattle.std.proofs.Common.{◌≡◌, ℕ, zero, suc, ◌+◌, ◌-◌, ◌≤◌, ◌<◌, ◌⊎◌, inl, inr, Bool, true, false, not, cond, ◌&&◌, ◌||◌, List, [], ◌∷◌, Contains, Option, Some, None, refl, sym, ap, subst, ◌∙◌, true≢false, arith}
use Rattle.std.specs.Prelude.{nat_eq}
use Rattle.std.specs.FinSet as set
use Rattle.std.specs.List.{list_any}
use Rattle.std.specs.Cmp.{IsTotalOrder}
use Rattle.std.specs.Ordering.{eq_by_cmp, is_eq}
use Rattle.std.specs.declared.cmp.Ordering.{Ordering}
use Rattle.std.proofs.lemmas.Bool.Decides.{nat_tests}
use Rattle.std.proofs.lemmas.Cmp.{tied_itself}
use Rattle.general_lemmas.proofs.Membership.{any_in, in_any}
use Rattle.general_lemmas.proofs.TruthTables.{equal_of}

module _ {K : Type 0} {R : K → K → Ordering} (o : IsTotalOrder R) (exact : set.IsAntisymmetric R) where
  itself : (x : K) → eq_by_cmp R x x ≡ true
  itself x = ap is_eq (tied_itself o x)

  one_of : (x q : K) → eq_by_cmp R x q ≡ true → x ≡ q
  one_of x q e = exact x q (equal_of (R x q) e)

  -- an element that the order finds in a list is in it
  pub tied_in : (ks : List K) (q : K) → list_any (eq_by_cmp R q) ks ≡ true → Contains ks q
  tied_in ks q h = let found = in_any (eq_by_cmp R q) ks h in subst (Contains ks) (sym (one_of q found.0 found.2)) found.1

  -- the items of a set are what it contains
  pub item_of : (s : set.FinSet R) (q : K) → set.contains s q ≡ true → Contains (set.items s) q
  item_of s q h = tied_in (set.items s) q (sym (set.contains-items s q) ∙ h)

  pub of_item : (s : set.FinSet R) (q : K) → Contains (set.items s) q → set.contains s q ≡ true
  of_item s q here = set.contains-items s q ∙ any_in (eq_by_cmp R q) (set.items s) q here (itself q)

  -- a set that isn't empty has an element
  some_of : (s : set.FinSet R) (n : ℕ) → set.len s ≡ suc n → (x : K) × (set.contains s x ≡ true)
  some_of s n e = by (set.items s) refl
    where
      by : (ks : List K) → set.items s ≡ ks → (x : K) × (set.contains s x ≡ true)
      by [] is =
          let none : s ≡ set.empty = set.same_set o exact s set.empty (λ q. set.contains-items s q ∙ ap (list_any (eq_by_cmp R q)) is ∙ sym (set.contains-empty R q)) in
          let zero_long : set.len s ≡ 0 = ap set.len none ∙ set.len-empty R in
          absurd (omega (arith, e, zero_long))
      by (k ∷ ks) is = (k, set.contains-items s k ∙ ap (list_any (eq_by_cmp R k)) is ∙ ap (λ b. b || list_any (eq_by_cmp R k) ks) (itself k))

  -- a set with an element isn't empty
  pub positive : (s : set.FinSet R) (x : K) → set.contains s x ≡ true → 1 ≤ set.len s
  positive s x here = at (set.len s) refl
    where
      at : (n : ℕ) → set.len s ≡ n → 1 ≤ set.len s
      at zero e = absurd (true≢false (sym here ∙ ap (λ t. set.contains t x) (set.empty_of_len s e) ∙ set.contains-empty R x))
      at (suc n) e = omega (arith, e)

  -- without one of its elements it has one less
  less : (s : set.FinSet R) (x : K) (n : ℕ) → set.contains s x ≡ true → set.len s ≡ suc n → set.len (set.remove s x) ≡ n
  less s x n here e = let l = set.len-remove o s x ∙ ap (λ b. cond b (set.len s - 1) (set.len s)) here in omega (arith, l, e)

  -- without anything else as many
  at_most_one_less : (s : set.FinSet R) (x : K) → set.len s ≤ set.len (set.remove s x) + 1
  at_most_one_less s x = by (set.contains s x) (set.len-remove o s x)
    where
      by : (b : Bool) → set.len (set.remove s x) ≡ cond b (set.len s - 1) (set.len s) → set.len s ≤ set.len (set.remove s x) + 1
      by true e = omega (arith, e)
      by false e = omega (arith, e)

  -- what is left without an element was there, and is another one
  pub kept_parts : (s : set.FinSet R) (gone q : K) → set.contains (set.remove s gone) q ≡ true → (set.contains s q ≡ true) × (q ≡ gone → ⊥)
  kept_parts s gone q h = by (eq_by_cmp R q gone) (set.contains s q) refl refl (sym (set.contains-remove o s gone q) ∙ h)
    where
      by : (e b : Bool) → eq_by_cmp R q gone ≡ e → set.contains s q ≡ b → (not e && b) ≡ true → (set.contains s q ≡ true) × (q ≡ gone → ⊥)
      by true b tie is h = absurd (true≢false (sym h))
      by false true tie is h = (is, λ same. true≢false (sym (itself q) ∙ ap (eq_by_cmp R q) same ∙ tie))
      by false false tie is h = absurd (true≢false (sym h))

  still_there : (s : set.FinSet R) (gone q : K) → set.contains s q ≡ true → (q ≡ gone → ⊥) → set.contains (set.remove s gone) q ≡ true
  still_there s gone q here other = set.contains-remove o s gone q ∙ by (eq_by_cmp R q gone) refl
    where
      by : (b : Bool) → eq_by_cmp R q gone ≡ b → (not b && set.contains s q) ≡ true
      by true e = absurd (other (one_of q gone e))
      by false e = here

  within_by : (n : ℕ) (s u : set.FinSet R) → set.len s ≡ n → ((q : K) → set.contains s q ≡ true → set.contains u q ≡ true) → set.len s ≤ set.len u
  within_by zero s u e sub = omega (arith, e)
  within_by (suc n) s u e sub =
      let x = some_of s n e in
      let gone = less s x.0 n x.1 e in
      let rest = within_by n (set.remove s x.0) (set.remove u x.0) gone
      (λ q h. let k = kept_parts s x.0 q h in still_there u x.0 q (sub q k.0) k.1) in
      let one = set.len-remove o u x.0 ∙ ap (λ b. cond b (set.len u - 1) (set.len u)) (sub x.0 x.1) in
      let some = positive u x.0 (sub x.0 x.1) in
      omega (arith, e, gone, rest, one, some)

  -- a set within another has no more
  pub within : (s u : set.FinSet R) → ((q : K) → set.contains s q ≡ true → set.contains u q ≡ true) → set.len s ≤ set.len u
  within s u sub = within_by (set.len s) s u refl sub

  apart_by : (n : ℕ) (t s u : set.FinSet R) → set.len t ≡ n → ((q : K) → set.contains s q ≡ true → set.contains u q ≡ true)
      → ((q : K) → set.contains t q ≡ true → set.contains u q ≡ true) → ((q : K) → set.contains s q ≡ true → set.contains t q ≡ true → ⊥)
      → set.len s + set.len t ≤ set.len u
  apart_by zero t s u e sub also never = let l = within s u sub in omega (arith, e, l)
  apart_by (suc n) t s u e sub also never =
      let x = some_of t n e in
      let gone = less t x.0 n x.1 e in
      let rest = apart_by n (set.remove t x.0) s (set.remove u x.0) gone
      (λ q h. still_there u x.0 q (sub q h) (λ same. never q h (subst (λ y. set.contains t y ≡ true) (sym same) x.1)))
      (λ q h. let k = kept_parts t x.0 q h in still_there u x.0 q (also q k.0) k.1)
      (λ q h l. never q h (kept_parts t x.0 q l).0) in
      let one = set.len-remove o u x.0 ∙ ap (λ b. cond b (set.len u - 1) (set.len u)) (also x.0 x.1) in
      let some = positive u x.0 (also x.0 x.1) in
      omega (arith, e, gone, rest, one, some)

  -- two sets apart from each other, both within another, have together no more
  pub apart : (s t u : set.FinSet R) → ((q : K) → set.contains s q ≡ true → set.contains u q ≡ true)
      → ((q : K) → set.contains t q ≡ true → set.contains u q ≡ true) → ((q : K) → set.contains s q ≡ true → set.contains t q ≡ true → ⊥)
      → set.len s + set.len t ≤ set.len u
  apart s t u sub also never = apart_by (set.len t) t s u refl sub also never

  -- a set whose elements have different numbers below n has at most n elements
  pub numbered : (f : K → ℕ) (n : ℕ) (s : set.FinSet R) → ((q : K) → set.contains s q ≡ true → f q < n)
      → ((p q : K) → set.contains s p ≡ true → set.contains s q ≡ true → f p ≡ f q → p ≡ q) → set.len s ≤ n
  numbered f zero s below report = at (set.len s) refl
    where
      at : (k : ℕ) → set.len s ≡ k → set.len s ≤ 0
      at zero e = omega (arith, e)
      at (suc k) e = let x = some_of s k e in let l = below x.0 x.1 in absurd (omega (arith, l))
  numbered f (suc n) s below report = by (list_any (λ q. nat_eq (f q) n) (set.items s)) refl (numbered f n)
    where
      is_number : (a b : ℕ) → nat_eq a b ≡ true → a ≡ b
      is_number a b h = grind (arith, nat_tests, h)

      same_number : (a b : ℕ) → a ≡ b → nat_eq a b ≡ true
      same_number a b h = grind (arith, nat_tests, h)

      smaller : (a b : ℕ) → a < suc b → (a ≡ b → ⊥) → a < b
      smaller a b l other = grind (arith, l, other)

      by : (b : Bool) → list_any (λ q. nat_eq (f q) n) (set.items s) ≡ b
          → ((t : set.FinSet R) → ((q : K) → set.contains t q ≡ true → f q < n) → ((p q : K) → set.contains t p ≡ true → set.contains t q ≡ true → f p ≡ f q → p ≡ q) → set.len t ≤ n)
          → set.len s ≤ suc n
      by true e few =
          let x = in_any (λ q. nat_eq (f q) n) (set.items s) e in
          let here = of_item s x.0 x.1 in
          let rest = few (set.remove s x.0)
          (λ q h. let k = kept_parts s x.0 q h in smaller (f q) n (below q k.0) (λ same. k.1 (report q x.0 k.0 here (same ∙ sym (is_number (f x.0) n x.2)))))
          (λ p q h l. report p q (kept_parts s x.0 p h).0 (kept_parts s x.0 q l).0) in
          let most = at_most_one_less s x.0 in
          omega (arith, rest, most)
      by false e few =
          let rest = few s
          (λ q h. smaller (f q) n (below q h) (λ same. true≢false (sym (any_in (λ x. nat_eq (f x) n) (set.items s) q (item_of s q h) (same_number (f q) n same)) ∙ e)))
          report in
          omega (arith, rest)

-- what elements that are gone give, at most one each
module _ {K : Type 0} {R : K → K → Ordering} (o : IsTotalOrder R) (exact : set.IsAntisymmetric R)
    {L : Type 0} {Q : L → L → Ordering} (p : IsTotalOrder Q) (precise : set.IsAntisymmetric Q) (f : K → Option L) where
  -- an element that is gone gives this
  pub record Gives (gone : set.FinSet R) (l : L) : Type 0 where
    pub from : K
    pub is : set.contains gone from ≡ true
    pub gives : f from ≡ Some l

  one_given : (a b : L) → Some a ≡ Some b → a ≡ b
  one_given a b e = cc

  given_by : (n : ℕ) (gone : set.FinSet R) (old new : set.FinSet Q) → set.len gone ≡ n
      → ((l : L) → set.contains new l ≡ true → (set.contains old l ≡ true) ⊎ Gives gone l) → set.len new ≤ set.len old + set.len gone
  given_by zero gone old new e comes =
      let l = within p precise new old (λ q h. elim (comes q h) [
        | inl was ↦ was
        | inr g ↦ absurd (true≢false (sym g.is ∙ ap (λ t. set.contains t g.from) (set.empty_of_len gone e) ∙ set.contains-empty R g.from))
      ]) in omega (arith, e, l)
  given_by (suc n) gone old new e comes =
      let x = some_of o exact gone n e in
      let fewer = less o exact gone x.0 n x.1 e in
      by x.0 x.1 fewer (f x.0) refl (given_by n)
    where
      by : (x : K) → set.contains gone x ≡ true → set.len (set.remove gone x) ≡ n → (y : Option L) → f x ≡ y
          → ((g : set.FinSet R) (a b : set.FinSet Q) → set.len g ≡ n → ((l : L) → set.contains b l ≡ true → (set.contains a l ≡ true) ⊎ Gives g l) → set.len b ≤ set.len a + set.len g)
          → set.len new ≤ set.len old + set.len gone
      by x here fewer None is few =
          let rest = few (set.remove gone x) old new fewer (λ l h. elim (comes l h) [
            | inl was ↦ inl was
            | inr g ↦ inr (record { from = g.from; is = still_there o exact gone x g.from g.is (λ same. cc (g.gives, ap f same, is)); gives = g.gives })
          ]) in
          omega (arith, e, fewer, rest)
      by x here fewer (Some i) is few =
          let rest = few (set.remove gone x) old (set.remove new i) fewer (λ l h. let k = kept_parts p precise new i l h in elim (comes l k.0) [
            | inl was ↦ inl was
            | inr g ↦ inr (record { from = g.from; is = still_there o exact gone x g.from g.is (λ same. k.1 (one_given l i (sym g.gives ∙ ap f same ∙ is))); gives = g.gives })
          ]) in
          let most = at_most_one_less p precise new i in
          omega (arith, e, fewer, rest, most)

  -- if each new element was there or is given by one that is gone, there are at most as many more as are gone
  pub given : (gone : set.FinSet R) (old new : set.FinSet Q)
      → ((l : L) → set.contains new l ≡ true → (set.contains old l ≡ true) ⊎ Gives gone l) → set.len new ≤ set.len old + set.len gone
  given gone old new comes = given_by (set.len gone) gone old new refl comes
