-- Ids of cells.
use Rattle.std.specs.Prelude.{ℕ, refl}
use Rattle.std.specs.declared.cmp.Ordering.{Ordering}
use Rattle.std.specs.Ordering.{nat_cmp, ordering_then}
use Rattle.std.specs.Coded.{Coded, code_by, coded×, coded_ℕ}

-- the id of a value: the index of its cell, and how many values that cell held before it
pub record Id : Type 0 where
  pub index : ℕ
  pub generation : ℕ

-- the id of index `i` and generation `g`
abbrev pub id_of : ℕ → ℕ → Id
id_of i g = record { index = i; generation = g }

-- the order of ids: by index, then by generation
abbrev pub id_cmp : Id → Id → Ordering
id_cmp a b = ordering_then (nat_cmp a.index b.index) (nat_cmp a.generation b.generation)

-- an id is stored as the pair of its index and its generation
abbrev pub id_code : Coded Id
id_code = code_by (ℕ × ℕ) (coded× coded_ℕ coded_ℕ) (λ i. (i.index, i.generation)) (λ p. id_of p.0 p.1) (λ _. refl)
