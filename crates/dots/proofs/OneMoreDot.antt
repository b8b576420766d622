-- How many runs a set has after one more dot.
use Rattle.std.proofs.Common.{◌≡◌, ℕ, suc, zero, ◌+◌, ◌-◌, ◌≤◌, Bool, true, false, not, cond, ◌&&◌, ◌||◌, ◌⊎◌, refl, sym, ap, ◌∙◌, inl, inr, arith}
use Rattle.std.specs.Prelude.{nat_eq}
use Rattle.std.specs.Ordering.{eq_by_cmp}
use Rattle.std.specs.Cmp.{Equal-is}
use Rattle.std.specs.FinSet as set
use Rattle.std.proofs.lemmas.Bool.{cases_Bool}
use Rattle.std.proofs.lemmas.Bool.Decides.{nat_tests}
use Rattle.std.proofs.Math.Bool.{and-false, and-true}
use Rattle.dots.specs.Values.{Dot}
use Rattle.dots.specs.Orders.{dot_cmp}
use Rattle.dots.specs.DotSets.{next_dot, run_ends, run_count}
use Rattle.dots.proofs.DotOrder.{dots_total, dots_exact, same_dot}
use Rattle.dots.proofs.RunCounts.{contains_run_ends}

-- the dot of the count before
abbrev pub dot_before : Dot → Dot
dot_before d = record { site = d.site; count = d.count - 1 }

-- a dot that a set has is no change
pub insert_known : (dots : set.FinSet dot_cmp) (d : Dot) → set.contains dots d ≡ true → set.insert dots d ≡ dots
insert_known dots d h = set.same_set dots_total dots_exact _ _ (λ q.
    set.contains-insert dots_total dots d q ∙ known (eq_by_cmp dot_cmp q d) (set.contains dots q)
    (λ e. set.contains_tied dots_total dots q d ((Equal-is (dot_cmp q d)).0 e)))
  where
    known : (e c : Bool) → (e ≡ true → set.contains dots d ≡ c) → (e || c) ≡ c
    known true c g = sym h ∙ g refl
    known false c g = refl

-- the test that the next dot is d is the test that the dot is the one before d
back_one : (q d : Dot) → 1 ≤ d.count → eq_by_cmp dot_cmp (next_dot q) d ≡ eq_by_cmp dot_cmp q (dot_before d)
back_one q d l = same_dot (next_dot q) d ∙ numbers d.site q.site d.count q.count l ∙ sym (same_dot q (dot_before d))
  where
    numbers : (s t c n : ℕ) → 1 ≤ c → (nat_eq s t && nat_eq c (suc n)) ≡ (nat_eq s t && nat_eq (c - 1) n)
    numbers s t c n l = grind (arith, nat_tests)

not_both : (q d : Dot) → 1 ≤ d.count → eq_by_cmp dot_cmp q d ≡ true → eq_by_cmp dot_cmp q (dot_before d) ≡ false
not_both q d l h = same_dot q (dot_before d) ∙ numbers d.site q.site d.count q.count l (sym (same_dot q d) ∙ h)
  where
    numbers : (s t c n : ℕ) → 1 ≤ c → (nat_eq s t && nat_eq c n) ≡ true → (nat_eq s t && nat_eq (c - 1) n) ≡ false
    numbers s t c n l h = grind (arith, nat_tests)

module _ (dots : set.FinSet dot_cmp) (d : Dot) (counted : 1 ≤ d.count) (new : set.contains dots d ≡ false) where
  -- the ends that stay
  abbrev kept : set.FinSet dot_cmp
  kept = set.remove (run_ends dots) (dot_before d)

  with_next : (e p c c' : Bool) → (e ≡ true → c ≡ false) → (e ≡ true → c' ≡ true) → ((e || c) && not (p || c')) ≡ (not p && (c && not c'))
  with_next true p c c' f g = let a = f refl in let b = g refl in at p c c' a b
    where
      at : (p c c' : Bool) → c ≡ false → c' ≡ true → not (p || c') ≡ (not p && (c && not c'))
      at true c c' a b = refl
      at false c c' a b = cc
  with_next false true c c' f g = and-false c
  with_next false false c c' f g = refl

  without_next : (e p c c' : Bool) → (e ≡ true → c' ≡ false) → (e ≡ true → p ≡ false) → ((e || c) && not (p || c')) ≡ (e || (not p && (c && not c')))
  without_next true p c c' f g = ap (λ b. not (b || c')) (g refl) ∙ ap not (f refl)
  without_next false true c c' f g = and-false c
  without_next false false c c' f g = refl

  at_dot : (q : Dot) → eq_by_cmp dot_cmp q d ≡ true → set.contains dots q ≡ false
  at_dot q e = sym (set.contains_tied dots_total dots q d ((Equal-is (dot_cmp q d)).0 e)) ∙ new

  at_next : (q : Dot) → eq_by_cmp dot_cmp q d ≡ true → set.contains dots (next_dot q) ≡ set.contains dots (next_dot d)
  at_next q e = ap (λ x. set.contains dots (next_dot x)) (dots_exact q d ((Equal-is (dot_cmp q d)).0 e))

  ends_after : (q : Dot) → set.contains (run_ends (set.insert dots d)) q
      ≡ ((eq_by_cmp dot_cmp q d || set.contains dots q) && not (eq_by_cmp dot_cmp q (dot_before d) || set.contains dots (next_dot q)))
  ends_after q =
      contains_run_ends (set.insert dots d) q
      ∙ (λ i. set.contains-insert dots_total dots d q i && not (set.contains-insert dots_total dots d (next_dot q) i))
      ∙ ap (λ b. (eq_by_cmp dot_cmp q d || set.contains dots q) && not (b || set.contains dots (next_dot q))) (back_one q d counted)

  contains_kept : (q : Dot) → set.contains kept q ≡ (not (eq_by_cmp dot_cmp q (dot_before d)) && (set.contains dots q && not (set.contains dots (next_dot q))))
  contains_kept q = set.contains-remove dots_total (run_ends dots) (dot_before d) q ∙ ap (λ b. not (eq_by_cmp dot_cmp q (dot_before d)) && b) (contains_run_ends dots q)

  joined_ends : set.contains dots (next_dot d) ≡ true → run_ends (set.insert dots d) ≡ kept
  joined_ends h = set.same_set dots_total dots_exact _ _ (λ q.
      ends_after q ∙ with_next (eq_by_cmp dot_cmp q d) (eq_by_cmp dot_cmp q (dot_before d)) (set.contains dots q) (set.contains dots (next_dot q)) (at_dot q) (λ e. at_next q e ∙ h)
      ∙ sym (contains_kept q))

  new_end : set.contains dots (next_dot d) ≡ false → run_ends (set.insert dots d) ≡ set.insert kept d
  new_end h = set.same_set dots_total dots_exact _ _ (λ q.
      ends_after q ∙ without_next (eq_by_cmp dot_cmp q d) (eq_by_cmp dot_cmp q (dot_before d)) (set.contains dots q) (set.contains dots (next_dot q)) (λ e. at_next q e ∙ h) (not_both q d counted)
      ∙ sym (set.contains-insert dots_total kept d q ∙ ap (λ b. eq_by_cmp dot_cmp q d || b) (contains_kept q)))

  not_kept : set.contains kept d ≡ false
  not_kept = contains_kept d ∙ ap (λ b. not (eq_by_cmp dot_cmp d (dot_before d)) && (b && not (set.contains dots (next_dot d)))) new ∙ and-false (not (eq_by_cmp dot_cmp d (dot_before d)))

  next_before : next_dot (dot_before d) ≡ d
  next_before = λ i. record { site = d.site; count = back d.count counted i }
    where
      back : (n : ℕ) → 1 ≤ n → suc (n - 1) ≡ n
      back n l = omega arith

  end_before : set.contains (run_ends dots) (dot_before d) ≡ set.contains dots (dot_before d)
  end_before = contains_run_ends dots (dot_before d) ∙ ap (λ b. set.contains dots (dot_before d) && not b) (ap (set.contains dots) next_before ∙ new) ∙ and-true (set.contains dots (dot_before d))

  some : (s : set.FinSet dot_cmp) (q : Dot) → set.contains s q ≡ true → 1 ≤ set.len s
  some s q h = elim (cases_zero (set.len s)) [ inl z ↦ absurd (let e = ap (λ t. set.contains t q) (set.empty_of_len s z) in let f = set.contains-empty dot_cmp q in cc) | inr l ↦ l ]
    where
      cases_zero : (n : ℕ) → (n ≡ 0) ⊎ (1 ≤ n)
      cases_zero zero = inl refl
      cases_zero (suc n) = inr (omega arith)

  len_kept : set.len kept + cond (set.contains dots (dot_before d)) 1 0 ≡ run_count dots
  unfolding run_count
  len_kept =
      elim (cases_Bool (set.contains dots (dot_before d))) [
        | inl y ↦ ap (λ b. set.len kept + cond b 1 0) y ∙ ap (λ n. n + 1) (set.len-remove dots_total (run_ends dots) (dot_before d) ∙ ap (λ b. cond b (set.len (run_ends dots) - 1) (set.len (run_ends dots))) (end_before ∙ y))
            ∙ (let l : 1 ≤ set.len (run_ends dots) = some (run_ends dots) (dot_before d) (end_before ∙ y) in omega arith)
        | inr n ↦ ap (λ b. set.len kept + cond b 1 0) n ∙ ap (λ n. n + 0) (set.len-remove dots_total (run_ends dots) (dot_before d) ∙ ap (λ b. cond b (set.len (run_ends dots) - 1) (set.len (run_ends dots))) (end_before ∙ n))
            ∙ omega arith
      ]

  len_after : run_count (set.insert dots d) + cond (set.contains dots (next_dot d)) 1 0 ≡ set.len kept + 1
  unfolding run_count
  len_after =
      elim (cases_Bool (set.contains dots (next_dot d))) [
        | inl y ↦ ap (λ b. run_count (set.insert dots d) + cond b 1 0) y ∙ ap (λ s. set.len s + 1) (joined_ends y)
        | inr n ↦ ap (λ b. run_count (set.insert dots d) + cond b 1 0) n ∙ ap (λ s. set.len s + 0) (new_end n)
            ∙ ap (λ n. n + 0) (set.len-insert dots_total kept d ∙ ap (λ b. cond b (set.len kept) (set.len kept + 1)) not_kept) ∙ omega arith
      ]

  -- a new dot is a run more, but for the runs beside it that it joins
  pub run_count_insert : run_count (set.insert dots d) + cond (set.contains dots (next_dot d)) 1 0 + cond (set.contains dots (dot_before d)) 1 0 ≡ run_count dots + 1
  run_count_insert = let a = len_after in let b = len_kept in omega arith
