-- Finite sets of dots, and the runs of counts that represent them. Counts have no greatest here.
use Rattle.std.specs.Prelude.{suc, zero, ℕ, ◌≡◌, ◌-◌, ◌≤◌, refl, Bool, true, false, not, ◌&&◌, ◌||◌, nat_eq, nat_le, nat_lt, IsTrue, List, [], ◌∷◌, ◌++◌}
use Rattle.std.specs.List.{All, list_any}
use Rattle.std.specs.FinSet as set
use Rattle.std.specs.Coded.{Coded, code_by, coded×, coded_ℕ}
use Rattle.dots.specs.Values.{Dot}
use Rattle.dots.specs.Orders.{dot_cmp}

-- a dot is stored as the pair of its site and its count
abbrev pub dot_code : Coded Dot
dot_code =
    code_by (ℕ × ℕ) (coded× coded_ℕ coded_ℕ) (λ d. (d.site, d.count)) (λ p. record { site = p.0; count = p.1 }) (λ _. refl)

-- the counts of one site from a first to a last
pub record Run : Type 0 where
  pub site : ℕ
  pub first : ℕ
  pub last : ℕ

-- the first dot of run `r`
abbrev pub first_dot : Run → Dot
first_dot r = record { site = r.site; count = r.first }

-- the last dot of run `r`
abbrev pub last_dot : Run → Dot
last_dot r = record { site = r.site; count = r.last }

-- whether run `r` has dot `d`: one of its site, with a count from its first to its last
abbrev pub in_run : Dot → Run → Bool
in_run d r = nat_eq r.site d.site && (nat_le r.first d.count && nat_le d.count r.last)

-- whether one of the runs `rs` has dot `d`
abbrev pub in_runs : List Run → Dot → Bool
in_runs rs d = list_any (in_run d) rs

-- whether run `r` lies before run `x` and apart from it: it is of a lesser site, or of the same one
-- with a count missing between them
abbrev pub is_apart : Run → Run → Bool
is_apart r x = nat_lt r.site x.site || (nat_eq r.site x.site && nat_lt (suc r.last) x.first)

-- each run of a list has a dot, and lies before all that follow it and apart from them, so that no
-- two touch
abbrev pub AreApart : List Run → Type 0
AreApart [] = Unit {0}
AreApart (r ∷ rs) = (r.first ≤ r.last) × All (λ x. IsTrue (is_apart r x)) rs × AreApart rs

-- `runs` are the runs of the set `dots`: the longest ones, in order by site and first count, which
-- have its dots and no others
pub record IsRunsOf (runs : List Run) (dots : set.FinSet dot_cmp) : Type 0 where
  pub apart : AreApart runs
  pub same : (d : Dot) → set.contains dots d ≡ in_runs runs d

-- the dot that follows `d`: of the same site, with the next count
abbrev pub next_dot : Dot → Dot
next_dot d = record { site = d.site; count = suc d.count }

-- the dots of the set `dots` that end a run of it: those whose next dot isn't in the set
unfoldable pub run_ends : set.FinSet dot_cmp → set.FinSet dot_cmp
run_ends dots = set.retain dots (λ d. not (set.contains dots (next_dot d)))

-- how many runs the set `dots` has: as many as it has dots that end one
unfoldable pub run_count : set.FinSet dot_cmp → ℕ
run_count dots = set.len (run_ends dots)

-- dots of `site`, as many as the number says, the first with the count `first` and each other with
-- the next
unfoldable pub dots_from : ℕ → ℕ → ℕ → List Dot
dots_from site first zero = []
dots_from site first (suc n) = record { site = site; count = first } ∷ dots_from site (suc first) n

-- the dots of a list of runs, one by one, run after run
unfoldable pub dots_in : List Run → List Dot
dots_in [] = []
dots_in (r ∷ rs) = dots_from r.site r.first (suc r.last - r.first) ++ dots_in rs

-- the set of the dots of the runs `rs`
unfoldable pub set_of : List Run → set.FinSet dot_cmp
set_of rs = set.from_list (dots_in rs)

-- the set of the dots of `site` whose counts are from `first` to `last`
abbrev pub dots_between : ℕ → ℕ → ℕ → set.FinSet dot_cmp
dots_between site first last = set_of (record { site = site; first = first; last = last } ∷ [])

-- whether one of `dots` is of the site of `dot` and has a greater count
abbrev pub is_older : List Dot → Dot → Bool
is_older dots dot = list_any (λ d. nat_eq d.site dot.site && nat_lt dot.count d.count) dots

-- the set `dots` has all counts of `site` from 1 to `n`, and not the next one
pub record IsPrefix (dots : set.FinSet dot_cmp) (site n : ℕ) : Type 0 where
  pub has : (count : ℕ) → 1 ≤ count → count ≤ n → set.contains dots (record { site = site; count = count }) ≡ true
  pub ends : set.contains dots (record { site = site; count = suc n }) ≡ false
