-- That runs are apart has one proof at most.
use Rattle.std.specs.Prelude.{List, [], ◌∷◌, true, slice_index_or}
use Rattle.std.specs.Coded.{Coded-set, Unit-prop, coded_bool, le_prop}
use Rattle.dots.specs.DotSets.{AreApart, Run, is_apart}

-- that runs are apart has one proof at most
pub apart-prop : (runs : List Run) → IsProp (AreApart runs)
apart-prop [] a b = Unit-prop a b
apart-prop (r ∷ rs) a b = λ i. (le_prop a.0 b.0 i, (λ k d l. Coded-set coded_bool (is_apart r (slice_index_or rs k d)) true (a.1 k d l) (b.1 k d l) i), apart-prop rs a.2 b.2 i)
