-- What contracts see of a vector with room at both ends.
use Rattle.std.specs.Prelude.{ℕ, List, refl}
use Rattle.std.specs.Coded.{Coded, code_by, coded×, coded_list, coded_ℕ}

-- what contracts see: the items in order, and how many there is memory for
pub record Items (T : Type 0) : Type 0 where
  pub items : List T
  pub room : ℕ

module _ {T : Type 0} where
  -- the items `xs`, with memory for `n`
  abbrev pub items_in : List T → ℕ → Items T
  items_in xs n = record { items = xs; room = n }

  -- what is seen is stored as the pair of the items and the room
  abbrev pub items_code : Coded T → Coded (Items T)
  items_code c = code_by (List T × ℕ) (coded× (coded_list c) coded_ℕ) (λ d. (d.items, d.room)) (λ p. items_in p.0 p.1) (λ _. refl)
