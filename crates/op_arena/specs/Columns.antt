-- What this crate's own clauses see of a chunk, and of many chunks together.
use Rattle.std.specs.Prelude.{ℕ, List, refl}
use Rattle.std.specs.Coded.{Coded, code_by, coded×, coded_list, coded_ℕ}

-- what is seen of one chunk, or of many together: values in the order in which they were added, and
-- how many there is memory for
pub record Column (X : Type 0) : Type 0 where
  pub items : List X
  pub capacity : ℕ

module _ {X : Type 0} where
  -- a column of the values `xs`, with memory for `n` of them
  abbrev pub column : List X → ℕ → Column X
  column xs n = record { items = xs; capacity = n }

  -- a column is stored as the pair of its values and its capacity
  abbrev pub column_code : Coded X → Coded (Column X)
  column_code c = code_by (List X × ℕ) (coded× (coded_list c) coded_ℕ) (λ m. (m.items, m.capacity)) (λ p. column p.0 p.1) (λ _. refl)
