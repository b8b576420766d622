-- How many runs a set has, by its runs and after one more dot.
use Rattle.std.proofs.Common.{◌≡◌, ◌+◌, ◌≤◌, true, false, not, cond, ◌&&◌, ◌||◌, List, [], ◌∷◌, length, map, refl, sym, ap, ◌∙◌, arith}
use Rattle.std.specs.List.{list_any}
use Rattle.std.specs.Ordering.{eq_by_cmp}
use Rattle.std.specs.FinSet as set
use Rattle.std.proofs.lemmas.Bool.Decides.{nat_tests}
use Rattle.dots.specs.Values.{Dot}
use Rattle.dots.specs.Orders.{dot_cmp}
use Rattle.dots.specs.DotSets.{Run, in_run, AreApart, IsRunsOf, last_dot, next_dot, run_ends, run_count}
use Rattle.dots.proofs.DotOrder.{dots_total, dots_exact, same_dot}
use Rattle.dots.proofs.Apart.{is_end, ends_of_apart, no_end, rest_misses}

any_end : (q : Dot) (rs : List Run) → list_any (eq_by_cmp dot_cmp q) (map last_dot rs) ≡ list_any (is_end q) rs
any_end q [] = refl
any_end q (r ∷ rs) = λ i. same_dot q (last_dot r) i || any_end q rs i

-- what ends a run of a set
pub contains_run_ends : (dots : set.FinSet dot_cmp) (q : Dot) → set.contains (run_ends dots) q ≡ (set.contains dots q && not (set.contains dots (next_dot q)))
unfolding run_ends
contains_run_ends dots q =
    set.contains-retain dots (λ d. not (set.contains dots (next_dot d))) q (λ x e. ap (λ d. not (set.contains dots (next_dot d))) (sym (dots_exact q x e)))

-- a set's runs end at the last dots of its runs
ends_are : (rs : List Run) (dots : set.FinSet dot_cmp) → IsRunsOf rs dots → run_ends dots ≡ set.from_list (map last_dot rs)
ends_are rs dots is = set.same_set dots_total dots_exact _ _ (λ q.
    contains_run_ends dots q ∙ (λ i. is.same q i && not (is.same (next_dot q) i)) ∙ ends_of_apart rs is.apart q
    ∙ sym (set.contains-from_list dots_total (map last_dot rs) q ∙ any_end q rs))

own_end : (r : Run) → r.first ≤ r.last → in_run (last_dot r) r ≡ true
own_end r w = grind (arith, nat_tests)

len_ends : (rs : List Run) → AreApart rs → set.len (set.from_list {R = dot_cmp} (map last_dot rs)) ≡ length rs
len_ends [] a = set.len-empty dot_cmp
len_ends (r ∷ rs) a =
    set.len-insert dots_total (set.from_list (map last_dot rs)) (last_dot r)
    ∙ ap (λ b. cond b (set.len (set.from_list {R = dot_cmp} (map last_dot rs))) (set.len (set.from_list {R = dot_cmp} (map last_dot rs)) + 1)) fresh
    ∙ ap (λ n. n + 1) (len_ends rs a.2) ∙ omega arith
  where
    fresh : set.contains (set.from_list {R = dot_cmp} (map last_dot rs)) (last_dot r) ≡ false
    fresh = set.contains-from_list dots_total (map last_dot rs) (last_dot r) ∙ any_end (last_dot r) rs ∙ no_end (last_dot r) rs a.2 (rest_misses (last_dot r) r rs a.1 (own_end r a.0))

-- a set has as many runs as there are in the list of its runs
pub run_count_runs : (rs : List Run) (dots : set.FinSet dot_cmp) → IsRunsOf rs dots → run_count dots ≡ length rs
unfolding run_count
run_count_runs rs dots is = ap set.len (ends_are rs dots is) ∙ len_ends rs is.apart
