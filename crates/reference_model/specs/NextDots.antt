-- Dots in order, and whether one goes on in the next.
use Rattle.std.specs.Prelude.{Bool, false, List, [], ◌∷◌}
use Rattle.dots.specs.Values.{Dot}
use Rattle.dots.specs.DotSets.{next_dot}
use Rattle.operations.specs.Knowledge.{is_dot}

-- whether the first of the dots follows `dot`: it is of the same site, with the next count
abbrev pub goes_on : Dot → List Dot → Bool
goes_on dot [] = false
goes_on dot (x ∷ xs) = is_dot (next_dot dot) x
