-- What contracts see of a context and of its runs.
use Rattle.std.specs.Prelude.{ℕ, ◌≤◌, ◌+◌, refl}
use Rattle.std.specs.FinSet as set
use Rattle.std.specs.Coded.{Coded, code_by, coded×, coded_ℕ}
use Rattle.dots.specs.declared.limits.TheConstants.{MOST_COUNT, MOST_RUNS}
use Rattle.dots.specs.Values.{IsSite}
use Rattle.dots.specs.Orders.{dot_cmp}
use Rattle.dots.specs.DotSets.{Run, dot_code, run_count}

-- a run is within the limits of dots
pub record IsRunWithinLimits (r : Run) : Type 0 where
  pub site : IsSite r.site
  pub least : 1 ≤ r.first
  pub ordered : r.first ≤ r.last
  pub most : r.last ≤ MOST_COUNT

-- a context: its dots, and how many runs it has room for
pub record Known : Type 0 where
  pub dots : set.FinSet dot_cmp
  pub room : ℕ

-- a context is stored as the pair of its dots and its room
abbrev pub known_code : Coded Known
known_code =
    code_by (set.FinSet dot_cmp × ℕ) (coded× (set.code dot_code) coded_ℕ)
    (λ k. (k.dots, k.room)) (λ p. record { dots = p.0; room = p.1 }) (λ _. refl)

-- the union with other dots can't fail: it has not too many runs, and there is room for the runs of both
pub record IsPrepared (context : Known) (other : set.FinSet dot_cmp) : Type 0 where
  pub few : run_count (set.union context.dots other) ≤ MOST_RUNS
  pub room : run_count context.dots + run_count other ≤ context.room
