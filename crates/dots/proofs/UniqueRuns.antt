-- A set has one list of runs.
use Rattle.std.proofs.Common.{◌≡◌, ◌≤◌, ◌<◌, Bool, true, false, ◌&&◌, ◌||◌, List, [], ◌∷◌, inl, inr, refl, sym, ap, ◌∙◌, arith}
use Rattle.std.specs.Prelude.{nat_lt, nat_eq, IsTrue}
use Rattle.std.specs.FinSet as set
use Rattle.std.proofs.lemmas.Bool.{cases_Bool, cases_lt, or_from}
use Rattle.std.proofs.lemmas.Bool.Decides.{nat_tests}
use Rattle.std.proofs.lemmas.List.Folds.{list_any_none}
use Rattle.std.proofs.lemmas.List.Elements.{All-weaker}
use Rattle.dots.specs.Values.{Dot}
use Rattle.dots.specs.Orders.{dot_cmp}
use Rattle.dots.specs.DotSets.{Run, in_run, in_runs, is_apart, AreApart, IsRunsOf, first_dot, last_dot, next_dot}
use Rattle.dots.proofs.Apart.{rest_misses, rest_misses_next}

-- a dot lies before the start of a run
abbrev is_before : Dot → Run → Bool
is_before d r = nat_lt d.site r.site || (nat_eq d.site r.site && nat_lt d.count r.first)

before_one : (d : Dot) (r : Run) → is_before d r ≡ true → in_run d r ≡ false
before_one d r h = grind (arith, nat_tests)

before_later : (d : Dot) (r x : Run) → r.first ≤ r.last → is_before d r ≡ true → IsTrue (is_apart r x) → in_run d x ≡ false
before_later d r x w h a = grind (arith, nat_tests)

-- a dot before the first run is in none
before_all : (d : Dot) (r : Run) (rs : List Run) → AreApart (r ∷ rs) → is_before d r ≡ true → in_runs (r ∷ rs) d ≡ false
before_all d r rs a h =
    or_from _ _ (before_one d r h)
    (list_any_none (in_run d) rs (All-weaker (λ x. IsTrue (is_apart r x)) (λ x. in_run d x ≡ false) (λ x p. before_later d r x a.0 h p) rs a.1))

start_in : (r : Run) (rs : List Run) → AreApart (r ∷ rs) → in_runs (r ∷ rs) (first_dot r) ≡ true
start_in r rs a = ap (λ b. b || in_runs rs (first_dot r)) (own r a.0)
  where
    own : (r : Run) → r.first ≤ r.last → in_run (first_dot r) r ≡ true
    own r w = grind (arith, nat_tests)

not_before : (r t : Run) (ts : List Run) → AreApart (t ∷ ts) → in_runs (t ∷ ts) (first_dot r) ≡ true → is_before (first_dot r) t ≡ false
not_before r t ts a h = elim (cases_Bool (is_before (first_dot r) t)) [ inl y ↦ absurd (let z = before_all (first_dot r) t ts a y in cc) | inr n ↦ n ]

same_start : (r t : Run) → is_before (first_dot r) t ≡ false → is_before (first_dot t) r ≡ false → (r.site ≡ t.site) × (r.first ≡ t.first)
same_start r t g h = (grind (arith, nat_tests), grind (arith, nat_tests))

past_end : (r : Run) (rs : List Run) → AreApart (r ∷ rs) → in_runs (r ∷ rs) (next_dot (last_dot r)) ≡ false
past_end r rs a = or_from _ _ (own r) (rest_misses_next (last_dot r) r rs a.1 (in_own r a.0))
  where
    own : (r : Run) → in_run (next_dot (last_dot r)) r ≡ false
    own r = grind (arith, nat_tests)

    in_own : (r : Run) → r.first ≤ r.last → in_run (last_dot r) r ≡ true
    in_own r w = grind (arith, nat_tests)

-- where the start is one, the first run goes at least as far as the other's
as_far : (r t : Run) (rs ts : List Run) → AreApart (r ∷ rs) → AreApart (t ∷ ts) → r.site ≡ t.site → r.first ≡ t.first
    → in_runs (r ∷ rs) (next_dot (last_dot r)) ≡ in_runs (t ∷ ts) (next_dot (last_dot r)) → t.last ≤ r.last
as_far r t rs ts a b s f same = elim (cases_lt r.last t.last) [ inl l ↦ absurd (both (longer r t a.0 s f l)) | inr le ↦ le ]
  where
    longer : (r t : Run) → r.first ≤ r.last → r.site ≡ t.site → r.first ≡ t.first → r.last < t.last → in_run (next_dot (last_dot r)) t ≡ true
    longer r t w s f l = grind (arith, nat_tests)

    both : in_run (next_dot (last_dot r)) t ≡ true → ⊥
    both h = let p = past_end r rs a in let q : in_runs (t ∷ ts) (next_dot (last_dot r)) ≡ true = ap (λ b. b || in_runs ts (next_dot (last_dot r))) h in cc

same_run : (r t : Run) → r.site ≡ t.site → r.first ≡ t.first → r.last ≡ t.last → r ≡ t
same_run r t a b c = λ i. record { site = a i; first = b i; last = c i }

-- what the rest has, where the first run is one
rest_same : (p q q' : Bool) → (p ≡ true → q ≡ false) → (p ≡ true → q' ≡ false) → (p || q) ≡ (p || q') → q ≡ q'
rest_same true q q' a b h = a refl ∙ sym (b refl)
rest_same false q q' a b h = h

first_same : (r t : Run) (rs ts : List Run) → AreApart (r ∷ rs) → AreApart (t ∷ ts) → ((d : Dot) → in_runs (r ∷ rs) d ≡ in_runs (t ∷ ts) d) → r ≡ t
first_same r t rs ts a b m =
    let start = same_start r t
    (not_before r t ts b (sym (m (first_dot r)) ∙ start_in r rs a))
    (not_before t r rs a (m (first_dot t) ∙ start_in t ts b)) in
    let le : t.last ≤ r.last = as_far r t rs ts a b start.0 start.1 (m (next_dot (last_dot r))) in
    let ge : r.last ≤ t.last = as_far t r ts rs b a (sym start.0) (sym start.1) (sym (m (next_dot (last_dot t)))) in
    same_run r t start.0 start.1 (omega arith)

-- runs that are apart and have the same dots are the same
pub apart_unique : (xs ys : List Run) → AreApart xs → AreApart ys → ((d : Dot) → in_runs xs d ≡ in_runs ys d) → xs ≡ ys
apart_unique [] [] a b m = refl
apart_unique [] (t ∷ ts) a b m = absurd (let h = start_in t ts b in let e = m (first_dot t) in cc)
apart_unique (r ∷ rs) [] a b m = absurd (let h = start_in r rs a in let e = m (first_dot r) in cc)
apart_unique (r ∷ rs) (t ∷ ts) a b m =
    let e = first_same r t rs ts a b m in
    let rest = apart_unique rs ts a.2 b.2 (λ d. rest_same (in_run d r) (in_runs rs d) (in_runs ts d)
    (rest_misses d r rs a.1) (λ h. rest_misses d t ts b.1 (sym (ap (in_run d) e) ∙ h))
    (m d ∙ ap (λ x. in_run d x || in_runs ts d) (sym e))) in
    λ i. e i ∷ rest i

-- a set has one list of runs
pub runs_unique : (xs ys : List Run) (dots : set.FinSet dot_cmp) → IsRunsOf xs dots → IsRunsOf ys dots → xs ≡ ys
runs_unique xs ys dots x y = apart_unique xs ys x.apart y.apart (λ d. sym (x.same d) ∙ y.same d)
