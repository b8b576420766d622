-- What contracts see of an arena.
use Rattle.std.specs.Prelude.{ℕ, nat_eq, refl}
use Rattle.std.specs.FinMap as map
use Rattle.std.specs.FinSet as set
use Rattle.std.specs.Coded.{Coded, code_by, coded×, coded_ℕ}
use Rattle.op_arena.specs.Ids.{id_cmp, id_code}

-- what contracts see of an arena: the values by their ids, the ids that are spent, and how many
-- more values there is room for
pub record Cells (T : Type 0) : Type 0 where
  pub held : map.FinMap id_cmp T
  pub spent : set.FinSet id_cmp
  pub spare : ℕ

module _ {T : Type 0} where
  -- what is seen of an arena is stored as the tuple of its values, its spent ids and its room
  abbrev pub cells_code : Coded T → Coded (Cells T)
  cells_code code =
      code_by (map.FinMap id_cmp T × (set.FinSet id_cmp × ℕ)) (coded× (map.code id_code code) (coded× (set.code id_code) coded_ℕ)) (λ c. (c.held, (c.spent, c.spare)))
      (λ p. record { held = p.0; spent = p.1.0; spare = p.1.1 }) (λ _. refl)

  -- how many values an arena holds
  abbrev pub cells_len : Cells T → ℕ
  cells_len c = map.len c.held

  -- how many ids of the generation `last`, the last one, are spent: that many cells are retired
  abbrev pub cells_retired : ℕ → Cells T → ℕ
  cells_retired last c = set.len (set.retain c.spent (λ id. nat_eq id.generation last))
