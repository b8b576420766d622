-- A command with its answer, as bytes.
use Rattle.std.specs.Prelude.{ℕ, All, Bool, ◌≡◌, ◌≢◌, ◌<◌, ◌⊎◌, List, [], Option, Result}
use Rattle.dots.specs.declared.label.Label.{Label}
use Rattle.replica.specs.declared.command.Command.{Command}
use Rattle.replica.specs.declared.command.Command.TheVariants as command
use Rattle.replica.specs.declared.refusal.Refusal.{Refusal}
use Rattle.ask_code.specs.declared.answered.AnsweredCommand.{AnsweredCommand}
use Rattle.ask_code.specs.declared.ask_fault.AskFault.{AskFault}
use Rattle.ask_code.specs.declared.ask_fault.AskFault.TheVariants.{Trailing}
use Rattle.ask_code.specs.declared.kind.Kind.{Kind}
use Rattle.ask_code.specs.declared.kind.Kind.TheVariants as kind
use Rattle.ask_code.specs.Codes.{After, Code, bit_code, both, led, optional}
use Rattle.ask_code.specs.Values.{IsKeptAnswer, answer_code, kind_code, label_code, name_code, pause_code, penalty_code}

-- the parts of an add: queue, interface, penalty, whether the member begins paused, and label
abbrev pub AddParts : Type 0
AddParts = List ℕ × (List ℕ × (ℕ × (Bool × Label)))

-- What follows the kind of an add.
abbrev pub add_code : Code AddParts
add_code = both name_code (both name_code (both penalty_code (both bit_code label_code)))

-- What follows the kind of a remove: queue and interface.
abbrev pub remove_code : Code (List ℕ × List ℕ)
remove_code = both name_code name_code

-- What follows the kind of a setting: the queue, if it is for one queue only, the interface, and the field.
abbrev pub setting_code : {A : Type 0} → Code A → Code (Option (List ℕ) × (List ℕ × A))
setting_code code = both (optional name_code) (both name_code code)

-- the kind of a command
abbrev pub kind_of : Command → Kind
kind_of (command.Add queue interface penalty paused label) = kind.Add
kind_of (command.Remove queue interface) = kind.Remove
kind_of (command.Pause queue interface pause) = kind.Pause
kind_of (command.Penalty queue interface penalty) = kind.Penalty
kind_of (command.RingInUse queue interface ring) = kind.RingInUse
kind_of (command.Completed queue) = kind.Completed
kind_of (command.Abandoned queue) = kind.Abandoned

-- the bytes of a command after its kind
abbrev pub content_bytes : Command → List ℕ
content_bytes (command.Add queue interface penalty paused label) = add_code.spell (queue, (interface, (penalty, (paused, label))))
content_bytes (command.Remove queue interface) = remove_code.spell (queue, interface)
content_bytes (command.Pause queue interface pause) = (setting_code pause_code).spell (queue, (interface, pause))
content_bytes (command.Penalty queue interface penalty) = (setting_code penalty_code).spell (queue, (interface, penalty))
content_bytes (command.RingInUse queue interface ring) = (setting_code bit_code).spell (queue, (interface, ring))
content_bytes (command.Completed queue) = name_code.spell queue
content_bytes (command.Abandoned queue) = name_code.spell queue

-- all parts of a command are within the limits of their types
abbrev pub IsCommand : Command → Type 0
IsCommand (command.Add queue interface penalty paused label) = add_code.IsGood (queue, (interface, (penalty, (paused, label))))
IsCommand (command.Remove queue interface) = remove_code.IsGood (queue, interface)
IsCommand (command.Pause queue interface pause) = (setting_code pause_code).IsGood (queue, (interface, pause))
IsCommand (command.Penalty queue interface penalty) = (setting_code penalty_code).IsGood (queue, (interface, penalty))
IsCommand (command.RingInUse queue interface ring) = (setting_code bit_code).IsGood (queue, (interface, ring))
IsCommand (command.Completed queue) = name_code.IsGood queue
IsCommand (command.Abandoned queue) = name_code.IsGood queue

-- bytes don't begin with the content of a command of this kind, and have this fault
abbrev pub ContentFails : Kind → AskFault → List ℕ → Type 0
ContentFails kind.Add fault bytes = add_code.Fails fault bytes
ContentFails kind.Remove fault bytes = remove_code.Fails fault bytes
ContentFails kind.Pause fault bytes = (setting_code pause_code).Fails fault bytes
ContentFails kind.Penalty fault bytes = (setting_code penalty_code).Fails fault bytes
ContentFails kind.RingInUse fault bytes = (setting_code bit_code).Fails fault bytes
ContentFails kind.Completed fault bytes = name_code.Fails fault bytes
ContentFails kind.Abandoned fault bytes = name_code.Fails fault bytes

-- A command: its kind, and what follows it.
abbrev pub command_code : Code Command
command_code = led kind_code kind_of content_bytes IsCommand ContentFails

-- A command, and then its answer.
abbrev pub ask_code : Code (Command × Result (Unit {0}) Refusal)
ask_code = both command_code answer_code

-- the bytes of a command with its answer
abbrev pub ask_bytes : AnsweredCommand → List ℕ
ask_bytes ask = ask_code.spell (ask.command, ask.answer)

-- a command with its answer is within the limits of its types, and its answer is kept
abbrev pub IsAsk : AnsweredCommand → Type 0
IsAsk ask = IsCommand ask.command × IsKeptAnswer ask.answer

-- Bytes have this fault: they don't begin with a command with its answer, or more bytes follow it.
abbrev pub HasFault : AskFault → List ℕ → Type 0
HasFault fault bytes = ask_code.Fails fault bytes ⊎ After ask_code (λ ask rest. (rest ≢ []) × (fault ≡ Trailing)) bytes

-- each number of a list is a byte
abbrev pub AreBytes : List ℕ → Type 0
AreBytes bytes = All (λ b. b < 256) bytes

-- bytes are the encoding of a command with its answer
pub record IsEncodedAsk (bytes : List ℕ) : Type 0 where
  pub ask : AnsweredCommand
  pub good : IsAsk ask
  pub is : bytes ≡ ask_bytes ask

-- bytes have a fault
pub record IsFaulty (bytes : List ℕ) : Type 0 where
  pub fault : AskFault
  pub has : HasFault fault bytes
