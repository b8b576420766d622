-- What the list of runs says of the set of dots.
use Rattle.std.proofs.Common.{◌≡◌, ℕ, suc, ◌+◌, ◌-◌, ◌≤◌, add-one, cond, Bool, true, false, ◌&&◌, ◌||◌, List, [], ◌∷◌, length, Option, Some, None, refl, sym, ap, subst, ◌∙◌, arith}
use Rattle.std.specs.Prelude.{MatchOption, is_some, nat_eq}
use Rattle.std.specs.List.{Contains}
use mir.Val.{bool_byte}
use Rattle.std.specs.FinSet as sets
use Rattle.std.proofs.lemmas.Bool.Decides.{nat_tests}
use Rattle.dots.specs.Values.{Dot}
use Rattle.dots.specs.Orders.{dot_cmp}
use Rattle.dots.specs.DotSets.{Run, in_run, in_runs, AreApart, IsRunsOf, IsPrefix, run_count, set_of, last_dot, next_dot}
use Rattle.dots.proofs.DotOrder.{dots_total, dots_exact, same_dot}
use Rattle.dots.proofs.OneMoreDot.{dot_before, run_count_insert}
use Rattle.dots.proofs.RunCounts.{run_count_runs}
use Rattle.dots.proofs.Runs.{runs_of_set, contains_set_of}
use Rattle.causal_context.proofs.Members.{has_of_run}

pub is_runs : (rs : List Run) (dots : sets.FinSet dot_cmp) → set_of rs ≡ dots → AreApart rs → IsRunsOf rs dots
is_runs rs dots e a = subst (IsRunsOf rs) e (runs_of_set rs a)

-- a run with the dot was found where the list has it
pub found : (o : Option Run) (rs : List Run) (d : Dot) → MatchOption o (in_runs rs d ≡ false) (λ r. Contains rs r × (in_run d r ≡ true) × (in_runs rs (next_dot (last_dot r)) ≡ false)) → is_some o ≡ sets.contains (set_of rs) d
found None rs d m = sym (contains_set_of rs d ∙ m)
found (Some r) rs d m = sym (contains_set_of rs d ∙ has_of_run rs r d m.0 m.1)

-- the run with the first count says how far the counts go
pub prefix_of_run : (rs : List Run) (site : ℕ) (r : Run) → Contains rs r → in_run (record { site = site; count = 1 }) r ≡ true → in_runs rs (next_dot (last_dot r)) ≡ false → IsPrefix (set_of rs) site r.last
prefix_of_run rs site r m h past = record {
  has = λ count lo hi. contains_set_of rs (record { site = site; count = count }) ∙ has_of_run rs r (record { site = site; count = count }) m (between site count r lo hi h);
  ends = contains_set_of rs (record { site = site; count = suc r.last }) ∙ ap (λ s. in_runs rs (record { site = s; count = suc r.last })) (sym (same_site site r h)) ∙ past;
}
  where
    between : (site count : ℕ) (r : Run) → 1 ≤ count → count ≤ r.last → in_run (record { site = site; count = 1 }) r ≡ true → in_run (record { site = site; count = count }) r ≡ true
    between site count r lo hi h = grind (arith, nat_tests)

    same_site : (site : ℕ) (r : Run) → in_run (record { site = site; count = 1 }) r ≡ true → r.site ≡ site
    same_site site r h = grind (arith, nat_tests)

-- with no such run there are none
pub prefix_of_none : (rs : List Run) (site : ℕ) → in_runs rs (record { site = site; count = 1 }) ≡ false → IsPrefix (set_of rs) site 0
prefix_of_none rs site h = record {
  has = λ count lo hi. absurd (omega (arith, lo, hi));
  ends = contains_set_of rs (record { site = site; count = 1 }) ∙ h;
}

-- one dot is the run of its count alone
pub union_one : (dots : sets.FinSet dot_cmp) (d : Dot) (r : Run) → r.site ≡ d.site → r.first ≡ d.count → r.last ≡ d.count → sets.union dots (set_of (r ∷ [])) ≡ sets.insert dots d
union_one dots d r s f l = sets.same_set dots_total dots_exact _ _ (λ q.
    sets.contains-union dots_total dots (set_of (r ∷ [])) q ∙ ap (λ b. sets.contains dots q || b) (contains_set_of (r ∷ []) q)
    ∙ swap (sets.contains dots q) (in_run q r)
    ∙ ap (λ b. b || sets.contains dots q) (numbers q r d s f l ∙ sym (same_dot q d))
    ∙ sym (sets.contains-insert dots_total dots d q))
  where
    swap : (a b : Bool) → (a || (b || false)) ≡ (b || a)
    swap true true = refl
    swap true false = refl
    swap false true = refl
    swap false false = refl

    numbers : (q : Dot) (r : Run) (d : Dot) → r.site ≡ d.site → r.first ≡ d.count → r.last ≡ d.count → in_run q r ≡ (nat_eq d.site q.site && nat_eq d.count q.count)
    numbers q r d s f l = grind (arith, nat_tests)

-- runs that are apart are all the runs of their dots
pub counted : (rs : List Run) → AreApart rs → run_count (set_of rs) ≡ length rs
counted rs a = run_count_runs rs (set_of rs) (runs_of_set rs a)

-- how many the union of two has, as it was counted
pub count_united : (n : ℕ) (rs xs : List Run) (s t : sets.FinSet dot_cmp) → n ≡ run_count (sets.union (set_of rs) (set_of xs)) → set_of rs ≡ s → set_of xs ≡ t → n ≡ run_count (sets.union s t)
count_united n rs xs s t e c d = e ∙ (λ i. run_count (sets.union (c i) (d i)))

-- the union of two has a dot that the first has, or where it hasn't, that the second has
pub has_first : (p : Bool) (s t : sets.FinSet dot_cmp) (d : Dot) → p ≡ sets.contains s d → p ≡ true → p ≡ sets.contains (sets.union s t) d
has_first p s t d e y = y ∙ sym (sets.contains-union dots_total s t d ∙ ap (λ b. b || sets.contains t d) (sym e ∙ y))

pub has_second : (p q : Bool) (s t : sets.FinSet dot_cmp) (d : Dot) → p ≡ sets.contains s d → p ≡ false → q ≡ sets.contains t d → q ≡ sets.contains (sets.union s t) d
has_second p q s t d e n f = f ∙ sym (sets.contains-union dots_total s t d ∙ ap (λ b. b || sets.contains t d) (sym e ∙ n))

-- the runs with one dot more, from those without it and the dots beside it
pub with_new : (n a b : ℕ) (dots : sets.FinSet dot_cmp) (site count : ℕ) (p q : Bool) → n ≡ run_count dots → 1 ≤ count → sets.contains dots (record { site = site; count = count }) ≡ false
    → p ≡ sets.contains dots (record { site = site; count = count + 1 }) → q ≡ sets.contains dots (record { site = site; count = count - 1 }) → a ≡ bool_byte p → b ≡ bool_byte q
    → (b ≤ (n + 1) - a) × (((n + 1) - a) - b ≡ run_count (sets.insert dots (record { site = site; count = count })))
with_new n a b dots site count p q e l new f g h k =
    let d : Dot = record { site = site; count = count } in
    let next : cond (sets.contains dots (next_dot d)) 1 0 ≡ a = ap (λ m. cond (sets.contains dots (record { site = site; count = m })) 1 0) (sym (add-one count)) ∙ ap (λ x. cond x 1 0) (sym f) ∙ byte p ∙ sym h in
    let before : cond (sets.contains dots (dot_before d)) 1 0 ≡ b = ap (λ x. cond x 1 0) (sym g) ∙ byte q ∙ sym k in
    let counted = run_count_insert dots d l new in
    (omega (arith, counted, next, before, e), omega (arith, counted, next, before, e))
  where
    byte : (x : Bool) → cond x 1 0 ≡ bool_byte x
    byte true = refl
    byte false = refl
