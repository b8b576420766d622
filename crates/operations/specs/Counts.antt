-- The running totals of calls in a knowledge (RR-7506's grow-only counter).
use Rattle.std.specs.Prelude.{ℕ, ◌==◌, ◌&&◌, max, [], ◌∷◌, if◌then◌else◌}
use Rattle.dots.specs.declared.limits.TheConstants.{SITES}
use Rattle.dots.specs.declared.calls.Calls.{Calls}
use Rattle.dots.specs.CountedCalls.{same_calls}
use Rattle.operations.specs.Operations.{Operation, Add, Write, Remove, Count}
use Rattle.operations.specs.Knowledge.{Knowledge}
use Rattle.operations.specs.Totals.{sum_below}

-- the number of the calls `calls` that `site` has counted in `queue` by an operation; 0 if the operation counts
-- none of them
abbrev pub count_in : ℕ → ℕ → Calls → Operation → ℕ
count_in site queue calls (Add dot member stamp penalty pause label older) = 0
count_in site queue calls (Write dots setting stamp older) = 0
count_in site queue calls (Remove dots) = 0
count_in site queue calls (Count s q c total) = if s == site && (q == queue && same_calls c calls) then total else 0

-- the number of the calls `calls` that `site` has counted in `queue`: the greatest of the knowledge's operations,
-- or 0
abbrev pub site_total : Knowledge → ℕ → ℕ → Calls → ℕ
site_total [] site queue calls = 0
site_total (o ∷ k) site queue calls = max (count_in site queue calls o) (site_total k site queue calls)

-- the number of the calls `calls` that were counted in `queue`: the sum of the totals of the 64 sites in knowledge
-- `k`
abbrev pub queue_total : Knowledge → ℕ → Calls → ℕ
queue_total k queue calls = sum_below SITES (λ site. site_total k site queue calls)
