-- Sorted lists that are merged.
use Rattle.std.specs.Prelude.{◌≢◌, Contains, List}
use Rattle.std.specs.Ordering.{on}
use Rattle.std.specs.declared.cmp.Ordering.{Ordering}
use Rattle.std.specs.declared.cmp.Ordering.TheVariants.{Equal}
use Rattle.dots.specs.Orders.{dot_cmp}
use Rattle.live_cells.specs.declared.placed.Placed.{Placed}

-- placed dots are ordered by their dots
abbrev pub placed_cmp : Placed → Placed → Ordering
placed_cmp = on (λ p. p.dot) dot_cmp

-- none of the one list ties with one of the other
abbrev pub AreUntied : {X : Type 0} → (X → X → Ordering) → List X → List X → Type 0
AreUntied {X} cmp own others = (x y : X) → Contains own x → Contains others y → cmp y x ≢ Equal
