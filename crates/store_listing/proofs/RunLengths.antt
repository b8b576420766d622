-- How many dots a set has, by its runs.
use Rattle.std.proofs.Common.{◌≡◌, ◌∙◌, ◌≤◌, ◌<◌, ◌+◌, ◌-◌, ℕ, zero, suc, Bool, true, false, ◌&&◌, ◌||◌, List, [], ◌∷◌, ◌++◌, length, get_or, take, cond, refl, sym, ap, arith, zero-add}
use Rattle.std.specs.List.{list_any, sum_by}
use Rattle.std.specs.FinSet as set
use Rattle.std.specs.Ordering.{eq_by_cmp}
use Rattle.std.specs.Prelude.{nat_eq, nat_le}
use Rattle.std.proofs.lemmas.Bool.Decides.{nat_tests}
use Rattle.std.proofs.lemmas.List.Folds.{list_any-append}
use Rattle.std.proofs.lemmas.List.Sums.{sum_by-cons, sum_by_more}
use Rattle.dots.specs.Values.{Dot}
use Rattle.dots.specs.Orders.{dot_cmp}
use Rattle.dots.specs.DotSets.{AreApart, IsRunsOf, Run, dots_from, dots_in, in_run, set_of}
use Rattle.dots.proofs.Apart.{rest_misses}
use Rattle.dots.proofs.DotOrder.{dots_total}
use Rattle.dots.proofs.Runs.{any_from, contains_set_of, set_of_runs}

-- how many dots a run has
abbrev pub run_length : Run → ℕ
run_length r = r.last - r.first + 1

-- whether a list has a dot
abbrev has : List Dot → Dot → Bool
has dots q = list_any (eq_by_cmp dot_cmp q) dots

or_right : (a b : Bool) → b ≡ true → (a || b) ≡ true
or_right true b h = refl
or_right false b h = h

-- the first of some dots isn't among those after it
first_is_new : (site first n : ℕ) → has (dots_from site (suc first) n) (record { site = site; count = first }) ≡ false
first_is_new site first n = any_from (record { site = site; count = first }) site (suc first) n ∙ below (nat_eq site site) first n
  where
    below : (b : Bool) (first n : ℕ) → (b && (nat_le (suc first) first && nat_le (suc first) (suc first + n))) ≡ false
    below true first n = grind (arith, nat_tests)
    below false first n = refl

-- dots of one site, none of which is among others, are as many more
len_more : (site first n : ℕ) (others : List Dot) → ((q : Dot) → has (dots_from site first n) q ≡ true → has others q ≡ false)
    → set.len (set.from_list {R = dot_cmp} (dots_from site first n ++ others)) ≡ n + set.len (set.from_list {R = dot_cmp} others)
unfolding dots_from
len_more site first zero others apart = sym (zero-add (set.len (set.from_list {R = dot_cmp} others)))
len_more site first (suc n) others apart =
    let dot : Dot = record { site = site; count = first } in
    let rest = set.from_list {R = dot_cmp} (dots_from site (suc first) n ++ others) in
    let own : has (dots_from site first (suc n)) dot ≡ true = any_from dot site first (suc n) ∙ at_first site first n in
    let fresh : set.contains rest dot ≡ false =
    set.contains-from_list dots_total (dots_from site (suc first) n ++ others) dot ∙ list_any-append (eq_by_cmp dot_cmp dot) (dots_from site (suc first) n) others
    ∙ (λ i. first_is_new site first n i || apart dot own i) in
    set.len-insert dots_total rest dot ∙ ap (λ b. cond b (set.len rest) (set.len rest + 1)) fresh
    ∙ ap (λ k. k + 1) (len_more site (suc first) n others (λ q h. apart q (or_right (eq_by_cmp dot_cmp q dot) (has (dots_from site (suc first) n) q) h))) ∙ one_more n (set.len (set.from_list {R = dot_cmp} others))
  where
    at_first : (site first n : ℕ) → (nat_eq site site && (nat_le first first && nat_le (suc first) (first + suc n))) ≡ true
    at_first site first n = grind (arith, nat_tests)

    one_more : (n m : ℕ) → n + m + 1 ≡ suc n + m
    one_more n m = omega arith

-- a dot among those of a run is in the run
in_own_run : (q : Dot) (r : Run) → has (dots_from r.site r.first (suc r.last - r.first)) q ≡ true → in_run q r ≡ true
in_own_run q r h = sym (any_from q r.site r.first (suc r.last - r.first) ∙ ap (λ b. nat_eq r.site q.site && b) (bounds q.count r.first r.last)) ∙ h
  where
    bounds : (c first last : ℕ) → (nat_le first c && nat_le (suc c) (first + (suc last - first))) ≡ (nat_le first c && nat_le c last)
    bounds c first last = grind (arith, nat_tests)

len_runs : (rs : List Run) → AreApart rs → set.len (set_of rs) ≡ sum_by run_length rs
unfolding set_of dots_in
len_runs [] apart = set.len-empty dot_cmp
len_runs (r ∷ rs) apart =
    len_more r.site r.first (suc r.last - r.first) (dots_in rs)
    (λ q h. sym (set.contains-from_list dots_total (dots_in rs) q) ∙ contains_set_of rs q ∙ rest_misses q r rs apart.1 (in_own_run q r h))
    ∙ (λ i. same_length r apart.0 i + len_runs rs apart.2 i) ∙ sym (sum_by-cons run_length r rs)
  where
    same_length : (r : Run) → r.first ≤ r.last → suc r.last - r.first ≡ run_length r
    same_length r ordered = omega arith

-- one run more is counted
pub dots_more : (runs : List Run) (i dots : ℕ) (run : Run) → i < length runs → run ≡ get_or runs i run → dots ≡ sum_by run_length (take i runs)
    → dots + run_length run ≡ sum_by run_length (take (i + 1) runs)
dots_more runs i dots run within is counted =
    ap (λ n. n + run_length run) counted ∙ ap (λ r. sum_by run_length (take i runs) + run_length r) is ∙ sym (sum_by_more run_length runs i run within)

-- a set has as many dots as its runs
pub len_of_runs : (rs : List Run) (dots : set.FinSet dot_cmp) → IsRunsOf rs dots → set.len dots ≡ sum_by run_length rs
len_of_runs rs dots is = ap set.len (sym (set_of_runs rs dots is)) ∙ len_runs rs is.apart
