-- The list of queue names that a site is started with.
use Rattle.std.specs.Prelude.{ℕ, ◌≢◌, ◌<◌, ◌≤◌, List, Option, length, nat_eq, AllPairs}
use Rattle.std.specs.List.{All, position}
use Rattle.std.specs.Cmp.Lexicographic.{pointwise}
use Rattle.dots.specs.declared.limits.TheConstants.{QUEUES}
use Rattle.dots.specs.Values.{IsName}

-- no two names are the same
abbrev pub AreDistinct : List (List ℕ) → Type 0
AreDistinct names = AllPairs (λ a b. a ≢ b) names

-- a list of queues has from 1 to 256 distinct names
pub record AreQueues (names : List (List ℕ)) : Type 0 where
  pub some : 0 < length names
  pub few : length names ≤ QUEUES
  pub are_names : All IsName names
  pub distinct : AreDistinct names

-- the number of the queue of this name: its place in the list of names
abbrev pub number_of : List (List ℕ) → List ℕ → Option ℕ
number_of names name = position (pointwise nat_eq name) names
