-- The kinds of rows, by their numbers.
use Rattle.std.specs.Prelude.{ℕ}
use Rattle.stored_steps.specs.declared.row_kind.RowKind.{RowKind}
use Rattle.stored_steps.specs.declared.row_kind.RowKind.TheVariants.{Base, Asked, Took, Cut, Whole, Started}

-- the number of a kind of row
abbrev pub kind_number : RowKind → ℕ
kind_number Base = 1
kind_number Asked = 2
kind_number Took = 3
kind_number Cut = 4
kind_number Whole = 5
kind_number Started = 6

-- steps have rows of this kind
abbrev pub IsOfSteps : RowKind → Type 0
IsOfSteps Base = ⊥
IsOfSteps Asked = Unit {0}
IsOfSteps Took = Unit {0}
IsOfSteps Cut = Unit {0}
IsOfSteps Whole = Unit {0}
IsOfSteps Started = ⊥
