-- The codes of the values that an ask has.
use Rattle.std.specs.Prelude.{ℕ, ⊤, ◌≢◌, List, Option, Some, None, Result, Ok, Err, if◌then◌else◌}
use Rattle.dots.specs.declared.label.Label.{Label}
use Rattle.dots.specs.Values.{IsName, IsPenalty, IsText, PauseState}
use Rattle.dots.specs.WithinLimits.{IsLabel, IsPause}
use Rattle.replica.specs.declared.refusal.Refusal.{Refusal}
use Rattle.replica.specs.declared.refusal.Refusal.TheVariants.{NoSuchQueue, AlreadyThere, NotThere, MembersFull, Exhausted, TotalFull, Memory}
use Rattle.ask_code.specs.declared.ask_fault.AskFault.TheVariants.{BadAnswer, BadKind, BadNumber, BadText}
use Rattle.ask_code.specs.declared.kind.Kind.{Kind}
use Rattle.ask_code.specs.declared.kind.Kind.TheVariants.{Add, Remove, Pause, Penalty, RingInUse, Completed, Abandoned}
use Rattle.ask_code.specs.Codes.{Code, both, byte_code, coded, counted_code, number_code, optional, viewed}

-- A text: its number of bytes, and these.
abbrev pub text_code : Code (List ℕ)
text_code = coded counted_code (λ text. text) IsText BadText

-- A name, of a queue or an interface: a text of at least one byte.
abbrev pub name_code : Code (List ℕ)
name_code = coded counted_code (λ name. name) IsName BadText

-- A penalty: four bytes.
abbrev pub penalty_code : Code ℕ
penalty_code = coded number_code (λ penalty. penalty) IsPenalty BadNumber

-- the reason of a paused member; `None` if it isn't paused
abbrev pub reason_of : PauseState → Option (List ℕ)
reason_of pause = if pause.paused then Some pause.reason else None

-- A pause: the reason, if the member is paused.
abbrev pub pause_code : Code PauseState
pause_code = viewed (optional text_code) reason_of IsPause

-- A label: the member name, and then the state interface.
abbrev pub label_code : Code Label
label_code = viewed (both text_code text_code) (λ label. (label.name, label.state)) IsLabel

-- the number of a kind of command
abbrev pub kind_number : Kind → ℕ
kind_number Add = 1
kind_number Remove = 2
kind_number Pause = 3
kind_number Penalty = 4
kind_number RingInUse = 5
kind_number Completed = 6
kind_number Abandoned = 7

-- A kind of command: its number, one byte.
abbrev pub kind_code : Code Kind
kind_code = coded byte_code kind_number (λ kind. ⊤) BadKind

-- A store keeps this answer: any but `Memory`, which comes from a shortage of memory, so that a replay need not give it.
abbrev pub IsKeptAnswer : Result (Unit {0}) Refusal → Type 0
IsKeptAnswer answer = answer ≢ Err Memory

-- the number of an answer; that of `Memory`, which no store keeps, is never written
abbrev pub answer_number : Result (Unit {0}) Refusal → ℕ
answer_number (Ok done) = 0
answer_number (Err NoSuchQueue) = 1
answer_number (Err AlreadyThere) = 2
answer_number (Err NotThere) = 3
answer_number (Err MembersFull) = 4
answer_number (Err Exhausted) = 5
answer_number (Err TotalFull) = 6
answer_number (Err Memory) = 7

-- An answer: its number, one byte.
abbrev pub answer_code : Code (Result (Unit {0}) Refusal)
answer_code = coded byte_code answer_number IsKeptAnswer BadAnswer
