-- Lists of dots, in the order of a set.
use Rattle.std.specs.Prelude.{ℕ, zero, suc, List, [], ◌++◌, map as each}
use Rattle.dots.specs.Values.{Dot}
use Rattle.dots.specs.Orders.{dot_cmp}
use Rattle.operations.specs.Rows.{DotView, dots_of}
use Rattle.general_lemmas.specs.SortedEntries.{IsRising}

-- the dots are in ascending order, without duplicates
abbrev pub DotsRise : List Dot → Type 0
DotsRise dots = IsRising dot_cmp (each (λ dot. (dot, tt {0})) dots)

-- the visible dots of an interface in the queues of the numbers below one, queue by queue
unfoldable pub dots_below : DotView → List ℕ → ℕ → List Dot
dots_below r interface zero = []
dots_below r interface (suc n) = dots_below r interface n ++ dots_of r (record { queue = n; interface = interface })
