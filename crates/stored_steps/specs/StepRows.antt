-- The rows of steps: which steps have one, and which rows are of no step.
use Rattle.std.specs.Prelude.{ℕ, ⊤, ◌≡◌, ◌≢◌, List, Option, Some, None, Ok, Err}
use Rattle.std.specs.List.{filter_map}
use Rattle.replica.specs.declared.command.Command.{Command}
use Rattle.status_report.specs.declared.asks.Answer.{Answer}
use Rattle.status_report.specs.declared.asks.Answer.TheVariants as answer
use Rattle.status_report.specs.declared.asks.Ask.{Ask}
use Rattle.status_report.specs.declared.asks.Ask.TheVariants as ask
use Rattle.ask_code.specs.declared.answered.AnsweredCommand.{AnsweredCommand}
use Rattle.ask_code.specs.Asks.{HasFault, IsAsk, IsCommand, ask_bytes}
use Rattle.site_journal.specs.declared.step.Step.{Step}
use Rattle.site_journal.specs.declared.step.StepDeed.{StepDeed}
use Rattle.site_journal.specs.declared.step.StepDeed.TheVariants as deed
use Rattle.stored_steps.specs.declared.row_fault.RowFault.{RowFault}
use Rattle.stored_steps.specs.declared.row_fault.RowFault.TheVariants as row_fault
use Rattle.stored_steps.specs.declared.row_kind.RowKind.{RowKind}
use Rattle.stored_steps.specs.declared.row_kind.RowKind.TheVariants as kind
use Rattle.stored_steps.specs.Kinds.{IsOfSteps, kind_number}
use Rattle.stored_steps.specs.Stored.{Stored}

-- the row of a pass, of this kind, with these bytes
abbrev pub row_with : ℕ → RowKind → List ℕ → Stored
row_with pass kind bytes = record { pass = pass; kind = kind_number kind; bytes = bytes }

-- a command with the answer that it is done
abbrev pub done : Command → AnsweredCommand
done command = record { command = command; answer = Ok tt }

-- the row of an ask that was answered: a command that is done has one
abbrev pub row_of_ask : ℕ → Ask → Answer → Option Stored
row_of_ask pass (ask.Command command) answer.Done = Some (row_with pass kind.Asked (ask_bytes (done command)))
row_of_ask pass asked given = None

-- the row of a deed: a take, a whole and a cut with a frame have one
abbrev pub row_of_deed : ℕ → StepDeed → Option Stored
row_of_deed pass (deed.Asked asked given) = row_of_ask pass asked given
row_of_deed pass (deed.Took bytes) = Some (row_with pass kind.Took bytes)
row_of_deed pass (deed.Cut None) = None
row_of_deed pass (deed.Cut (Some bytes)) = Some (row_with pass kind.Cut bytes)
row_of_deed pass (deed.Whole bytes) = Some (row_with pass kind.Whole bytes)

-- the row of a step, where it has one
abbrev pub row_of : Step → Option Stored
row_of step = row_of_deed step.pass step.deed

-- the rows of steps, in their order
abbrev pub rows_of : List Step → List Stored
rows_of steps = filter_map row_of steps

-- an ask whose answer is that it is done is within the limits of its types
abbrev pub IsAskWithinLimits : Ask → Answer → Type 0
IsAskWithinLimits (ask.Command command) answer.Done = IsCommand command
IsAskWithinLimits asked given = ⊤

-- a deed is within the limits of its types, where it is a command that is done
abbrev pub IsDeedWithinLimits : StepDeed → Type 0
IsDeedWithinLimits (deed.Asked asked given) = IsAskWithinLimits asked given
IsDeedWithinLimits (deed.Took bytes) = ⊤
IsDeedWithinLimits (deed.Cut bytes) = ⊤
IsDeedWithinLimits (deed.Whole bytes) = ⊤

-- a step is within the limits of its types
abbrev pub IsWithinLimits : Step → Type 0
IsWithinLimits step = IsDeedWithinLimits step.deed

-- bytes are those of a command that was refused
pub record IsRefusedAsk (bytes : List ℕ) : Type 0 where
  pub ask : AnsweredCommand
  pub good : IsAsk ask
  pub refused : ask.answer ≢ Ok tt
  pub is : bytes ≡ ask_bytes ask

-- bytes aren't those of a command that is done, for this cause
abbrev pub HasAskFault : RowFault → List ℕ → Type 0
HasAskFault row_fault.BadKind bytes = ⊥
HasAskFault (row_fault.Ask fault) bytes = HasFault fault bytes
HasAskFault row_fault.NotDone bytes = IsRefusedAsk bytes
HasAskFault row_fault.Memory bytes = ⊥

-- the kind of a row is that of no step
abbrev pub IsOfNoStep : Stored → Type 0
IsOfNoStep row = (k : RowKind) → IsOfSteps k → row.kind ≢ kind_number k

-- a row stands for no step, for this cause
abbrev pub HasRowFault : RowFault → Stored → Type 0
HasRowFault row_fault.BadKind row = IsOfNoStep row
HasRowFault (row_fault.Ask fault) row = (row.kind ≡ kind_number kind.Asked) × HasFault fault row.bytes
HasRowFault row_fault.NotDone row = (row.kind ≡ kind_number kind.Asked) × IsRefusedAsk row.bytes
HasRowFault row_fault.Memory row = ⊥

-- a row stands for a step
pub record IsRowOfStep (row : Stored) : Type 0 where
  pub step : Step
  pub row_is : row_of step ≡ Some row
  pub within : IsWithinLimits step

-- a row has a fault
pub record IsFaultyRow (row : Stored) : Type 0 where
  pub fault : RowFault
  pub has : HasRowFault fault row
