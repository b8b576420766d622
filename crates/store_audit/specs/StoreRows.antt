-- The rows of a store behind its first: steps, starts, and bases that took the place of rows that are kept.
use Rattle.std.specs.Prelude.{ℕ, ◌+◌, ◌&&◌, Bool, not, nat_eq, List, [], ◌∷◌, filter, if◌then◌else◌}
use Rattle.stored_steps.specs.declared.row_kind.RowKind.TheVariants.{Base}
use Rattle.stored_steps.specs.Kinds.{kind_number}
use Rattle.stored_steps.specs.StartRows.{is_start}
use Rattle.stored_steps.specs.Stored.{Stored}

-- whether a row is of the kind of a base
abbrev pub is_base : Stored → Bool
is_base row = nat_eq row.kind (kind_number Base)

-- whether a row is to stand for a step: it is of no base and of no start
abbrev pub is_step : Stored → Bool
is_step row = not (is_base row) && not (is_start row)

-- the rows that are of no base
abbrev pub without_bases : List Stored → List Stored
without_bases rows = filter (λ row. not (is_base row)) rows

-- the rows that are to stand for steps
abbrev pub rows_with_steps : List Stored → List Stored
rows_with_steps rows = filter is_step rows

-- the positions of the rows that are to stand for steps, if the first row has the position `at`
abbrev pub step_positions : ℕ → List Stored → List ℕ
step_positions at [] = []
step_positions at (row ∷ rows) = if is_step row then at ∷ step_positions (at + 1) rows else step_positions (at + 1) rows
