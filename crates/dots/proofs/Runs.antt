-- What runs say of single dots.
use Rattle.std.proofs.Common.{◌≡◌, ℕ, suc, zero, ◌+◌, ◌-◌, Bool, true, false, ◌&&◌, ◌||◌, List, [], ◌∷◌, refl, sym, ap, ◌∙◌, arith}
use Rattle.std.specs.Prelude.{nat_le, nat_eq}
use Rattle.std.specs.List.{list_any}
use Rattle.std.specs.FinSet as set
use Rattle.std.specs.Ordering.{eq_by_cmp}
use Rattle.std.proofs.lemmas.Bool.Decides.{nat_tests}
use Rattle.std.proofs.lemmas.List.Folds.{list_any-append}
use Rattle.dots.specs.Values.{Dot}
use Rattle.dots.specs.Orders.{dot_cmp}
use Rattle.dots.specs.DotSets.{Run, in_run, in_runs, dots_from, dots_in, set_of, AreApart, IsRunsOf}
use Rattle.dots.proofs.DotOrder.{dots_total, dots_exact, same_dot}

either : (a b c d e f : Bool) → a ≡ (b && c) → d ≡ (b && e) → f ≡ (c || e) → (a || d) ≡ (b && f)
either a true c d e f p q r = (λ i. p i || q i) ∙ sym r
either a false c d e f p q r = (λ i. p i || q i)

counts : (c first n : ℕ) → (nat_le first c && nat_le (suc c) (first + suc n)) ≡ (nat_eq first c || (nat_le (suc first) c && nat_le (suc c) (suc first + n)))
counts c first n = grind (arith, nat_tests)

none : (b : Bool) (c first : ℕ) → false ≡ (b && (nat_le first c && nat_le (suc c) (first + 0)))
none true c first = grind (arith, nat_tests)
none false c first = refl

pub any_from : (q : Dot) (site first n : ℕ) → list_any (eq_by_cmp dot_cmp q) (dots_from site first n) ≡ (nat_eq site q.site && (nat_le first q.count && nat_le (suc q.count) (first + n)))
unfolding dots_from
any_from q site first zero = none (nat_eq site q.site) q.count first
any_from q site first (suc n) = either _ _ _ _ _ _ (same_dot q (record { site = site; count = first })) (any_from q site (suc first) n) (counts q.count first n)

any_run : (q : Dot) (r : Run) → list_any (eq_by_cmp dot_cmp q) (dots_from r.site r.first (suc r.last - r.first)) ≡ in_run q r
any_run q r = any_from q r.site r.first (suc r.last - r.first) ∙ ap (λ b. nat_eq r.site q.site && b) (bounds q.count r.first r.last)
  where
    bounds : (c first last : ℕ) → (nat_le first c && nat_le (suc c) (first + (suc last - first))) ≡ (nat_le first c && nat_le c last)
    bounds c first last = grind (arith, nat_tests)

any_dots : (q : Dot) (rs : List Run) → list_any (eq_by_cmp dot_cmp q) (dots_in rs) ≡ in_runs rs q
unfolding dots_in
any_dots q [] = refl
any_dots q (r ∷ rs) = list_any-append (eq_by_cmp dot_cmp q) (dots_from r.site r.first (suc r.last - r.first)) (dots_in rs) ∙ (λ i. any_run q r i || any_dots q rs i)

-- a dot is in the set of runs where one of them has it
pub contains_set_of : (rs : List Run) (q : Dot) → set.contains (set_of rs) q ≡ in_runs rs q
unfolding set_of
contains_set_of rs q = set.contains-from_list dots_total (dots_in rs) q ∙ any_dots q rs

pub set_of_nil : set_of [] ≡ set.empty
unfolding set_of dots_in
set_of_nil = refl

-- runs that are apart are the runs of their set
pub runs_of_set : (rs : List Run) → AreApart rs → IsRunsOf rs (set_of rs)
runs_of_set rs apart = record { apart = apart; same = contains_set_of rs }

-- a set is that of its runs
pub set_of_runs : (rs : List Run) (dots : set.FinSet dot_cmp) → IsRunsOf rs dots → set_of rs ≡ dots
set_of_runs rs dots is = set.same_set dots_total dots_exact _ _ (λ q. contains_set_of rs q ∙ sym (is.same q))
