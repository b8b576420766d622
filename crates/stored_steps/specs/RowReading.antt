-- Why a step isn't read of a row.
use Rattle.std.specs.Prelude.{ℕ, ⊤, ◌≡◌, ◌⊎◌, List}
use Rattle.stored_steps.specs.declared.row_fault.RowFault.{RowFault}
use Rattle.stored_steps.specs.declared.row_fault.RowFault.TheVariants.{BadKind, Memory}
use Rattle.stored_steps.specs.declared.row_kind.RowKind.{RowKind}
use Rattle.stored_steps.specs.declared.row_kind.RowKind.TheVariants as kind
use Rattle.stored_steps.specs.StepRows.{HasAskFault, HasRowFault, IsRowOfStep}
use Rattle.stored_steps.specs.Stored.{Stored}

-- no deed is read of bytes of this kind for this cause
abbrev pub IsDeedFault : RowKind → List ℕ → RowFault → Type 0
IsDeedFault kind.Base bytes fault = fault ≡ BadKind
IsDeedFault kind.Asked bytes fault = HasAskFault fault bytes
IsDeedFault kind.Took bytes fault = fault ≡ Memory
IsDeedFault kind.Cut bytes fault = fault ≡ Memory
IsDeedFault kind.Whole bytes fault = fault ≡ Memory
IsDeedFault kind.Started bytes fault = fault ≡ BadKind

-- no step is read of a row for this cause: the row has the fault, or it stands for a step and an allocation was refused
abbrev pub IsStepFault : RowFault → Stored → Type 0
IsStepFault fault row = HasRowFault fault row ⊎ ((fault ≡ Memory) × IsRowOfStep row)
