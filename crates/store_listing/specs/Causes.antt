-- Why a row has no text.
use Rattle.std.specs.Prelude.{ℕ, ⊤, ◌≡◌, ◌≢◌, ◌⊎◌, false, List, Some, None}
use Rattle.site_journal.specs.Journals.{HasFaultAlone}
use Rattle.site_journal.specs.declared.step.StepDeed.{StepDeed}
use Rattle.site_journal.specs.declared.step.StepDeed.TheVariants.{Asked, Took, Cut, Whole}
use Rattle.stored_steps.specs.declared.base_fault.BaseFault.{BaseFault}
use Rattle.stored_steps.specs.declared.base_fault.BaseFault.TheVariants as base_faults
use Rattle.stored_steps.specs.declared.row_fault.RowFault.{RowFault}
use Rattle.stored_steps.specs.declared.row_fault.RowFault.TheVariants as row_faults
use Rattle.stored_steps.specs.declared.row_kind.RowKind.TheVariants as kind
use Rattle.stored_steps.specs.BaseFaults.{IsAnyBaseCause}
use Rattle.stored_steps.specs.Kinds.{kind_number}
use Rattle.stored_steps.specs.StartRows.{is_start}
use Rattle.stored_steps.specs.StepRows.{HasRowFault}
use Rattle.stored_steps.specs.Stored.{Stored}
use Rattle.store_listing.specs.declared.listing_fault.ListingFault.{ListingFault}
use Rattle.store_listing.specs.declared.listing_fault.ListingFault.TheVariants.{Row, Base, Frame, Write, Memory}

-- the body of a row is a frame's
abbrev pub HasFrame : Stored → Type 0
HasFrame row = (row.kind ≡ kind_number kind.Took) ⊎ (row.kind ≡ kind_number kind.Cut) ⊎ (row.kind ≡ kind_number kind.Whole)

-- a row is neither a base nor a start
pub record IsStepRow (row : Stored) : Type 0 where
  pub no_base : row.kind ≢ kind_number kind.Base
  pub no_start : is_start row ≡ false

-- the row of a position is the cause of a fault; a failed write and a refused allocation have no cause in a row
abbrev pub HasCause : ListingFault → ℕ → Stored → Type 0
HasCause (Row place fault) position row = (place ≡ position) × IsStepRow row × HasRowFault fault row
HasCause (Base place fault) position row = (place ≡ position) × (row.kind ≡ kind_number kind.Base) × IsAnyBaseCause row fault
HasCause (Frame place fault) position row = (place ≡ position) × HasFrame row × HasFaultAlone row.bytes fault
HasCause Write position row = ⊤
HasCause Memory position row = ⊤

-- the bytes of the row of a position aren't exactly one frame, or an allocation was refused
abbrev pub IsFrameFault : ℕ → List ℕ → ListingFault → Type 0
IsFrameFault position bytes (Row place fault) = ⊥
IsFrameFault position bytes (Base place fault) = ⊥
IsFrameFault position bytes (Frame place fault) = (place ≡ position) × HasFaultAlone bytes fault
IsFrameFault position bytes Write = ⊥
IsFrameFault position bytes Memory = ⊤

-- the row of a position has no text, for this cause
abbrev pub IsTextFault : ℕ → Stored → ListingFault → Type 0
IsTextFault position row fault = HasCause fault position row × (fault ≢ Write)

-- a deed has no text, for this cause: its frame
abbrev pub IsDeedFault : ℕ → StepDeed → ListingFault → Type 0
IsDeedFault position (Asked asked answer) fault = fault ≡ Memory
IsDeedFault position (Took bytes) fault = IsFrameFault position bytes fault
IsDeedFault position (Cut None) fault = ⊥
IsDeedFault position (Cut (Some bytes)) fault = IsFrameFault position bytes fault
IsDeedFault position (Whole bytes) fault = IsFrameFault position bytes fault

-- the fault for a row that is that of no step
abbrev pub row_fault : ℕ → RowFault → ListingFault
row_fault position row_faults.Memory = Memory
row_fault position fault = Row position fault

-- the fault for a row that is no base
abbrev pub base_fault : ℕ → BaseFault → ListingFault
base_fault position base_faults.Memory = Memory
base_fault position fault = Base position fault
