-- Two lists that are walked together, each in its order.
use Rattle.std.specs.Prelude.{List, [], ◌∷◌}
use Rattle.std.specs.declared.cmp.Ordering.{Ordering}
use Rattle.std.specs.declared.cmp.Ordering.TheVariants.{Less, Greater}

-- the order of the first elements of two lists; `Less` if only the second is empty, `Greater` if
-- the first is
abbrev pub next_by : {X : Type 0} → (X → X → Ordering) → List X → List X → Ordering
next_by {X} order [] others = Greater
next_by {X} order (x ∷ xs) [] = Less
next_by {X} order (x ∷ xs) (y ∷ others) = order x y
