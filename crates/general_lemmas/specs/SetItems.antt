-- The items of a finite set, one by one in its order.
use Rattle.std.specs.Prelude.{List, map as each}
use Rattle.std.specs.declared.cmp.Ordering.{Ordering}
use Rattle.std.specs.FinMap as map
use Rattle.std.specs.FinSet as set

-- each item of the set `s` once, the lesser before the greater: the keys of the map that has an
-- entry for each item
abbrev pub in_order : {K : Type 0} {R : K → K → Ordering} → set.FinSet R → List K
in_order {R = R} s = map.keys (map.from_entries {R = R} (each (λ k. (k, tt {0})) (set.items s)))
