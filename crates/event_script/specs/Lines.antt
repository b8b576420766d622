-- The line of a script for an event.
use Rattle.std.specs.Prelude.{ℕ, ◌-◌, ◌&&◌, ◌++◌, Bool, true, false, not, nat_lt, List, [], ◌∷◌, length, slice_index, Option, Some, None, codes, decimal, if◌then◌else◌}
use Rattle.std.specs.List.{flat_map, list_all, list_any}
use Rattle.ami_session.specs.FieldValues.{Fields}
use Rattle.ami_text.specs.MessageFields.{NameAndValue, is_blank}
use Rattle.ask_code.specs.Asks.{IsCommand}
use Rattle.dots.specs.declared.label.Label.{Label}
use Rattle.dots.specs.Values.{IsSite}
use Rattle.replica.specs.declared.command.Command.{Command}
use Rattle.replica.specs.declared.command.Command.TheVariants.{Add, Remove, Pause, Penalty, RingInUse, Completed, Abandoned}
use Rattle.script_lines.specs.ScriptLines.{is_bar}
use Rattle.sites_world.specs.declared.event.Event.{Event}
use Rattle.sites_world.specs.declared.event.Event.TheVariants as event
use Rattle.sites_world.specs.Worlds.{site_of}
use Rattle.status_report.specs.declared.asks.Ask.TheVariants as ask

-- ---- the fields of a command

-- the field of this name, if its value has a byte
abbrev pub field_if_any : List ℕ → List ℕ → Fields
field_if_any name [] = []
field_if_any name (b ∷ bs) = (name, b ∷ bs) ∷ []

-- the field of a queue, if there is one
abbrev pub queue_field : Option (List ℕ) → Fields
queue_field None = []
queue_field (Some queue) = (codes "Queue", queue) ∷ []

-- the value of a field that says yes or no
abbrev pub yes_or_no : Bool → List ℕ
yes_or_no says = if says then codes "yes" else codes "no"

-- the fields of a label
abbrev pub label_fields : Label → Fields
label_fields label = field_if_any (codes "MemberName") label.name ++ field_if_any (codes "StateInterface") label.state

-- the fields that a command's message has behind its action; a counted call has no message
abbrev pub command_fields : Command → Fields
command_fields (Add queue interface penalty paused label) =
    (codes "Queue", queue) ∷ (codes "Interface", interface) ∷ (codes "Penalty", decimal penalty) ∷ (codes "Paused", yes_or_no paused) ∷ label_fields label
command_fields (Remove queue interface) = (codes "Queue", queue) ∷ (codes "Interface", interface) ∷ []
command_fields (Pause queue interface pause) =
    queue_field queue ++ (codes "Interface", interface) ∷ (codes "Paused", yes_or_no pause.paused) ∷ field_if_any (codes "Reason") pause.reason
command_fields (Penalty queue interface penalty) = queue_field queue ++ (codes "Interface", interface) ∷ (codes "Penalty", decimal penalty) ∷ []
command_fields (RingInUse queue interface ring) = queue_field queue ++ (codes "Interface", interface) ∷ (codes "RingInUse", yes_or_no ring) ∷ []
command_fields (Completed queue) = []
command_fields (Abandoned queue) = []

-- ---- the line

-- a field, as it stands behind a bar
abbrev pub field_text : NameAndValue → List ℕ
field_text field = codes "|" ++ (field.0 ++ (codes ": " ++ field.1))

-- the words for a message of this action with these fields
abbrev pub message_words : List ℕ → Fields → List ℕ
message_words action fields = codes "ami Action: " ++ (action ++ flat_map field_text fields)

-- the words for a command
abbrev pub command_words : Command → List ℕ
command_words (Add queue interface penalty paused label) = message_words (codes "QueueAdd") (command_fields (Add queue interface penalty paused label))
command_words (Remove queue interface) = message_words (codes "QueueRemove") (command_fields (Remove queue interface))
command_words (Pause queue interface pause) = message_words (codes "QueuePause") (command_fields (Pause queue interface pause))
command_words (Penalty queue interface penalty) = message_words (codes "QueuePenalty") (command_fields (Penalty queue interface penalty))
command_words (RingInUse queue interface ring) = message_words (codes "QueueMemberRingInUse") (command_fields (RingInUse queue interface ring))
command_words (Completed queue) = codes "completed " ++ queue
command_words (Abandoned queue) = codes "abandoned " ++ queue

-- the words for an event, which stand behind its site's number
abbrev pub event_words : Event → List ℕ
event_words (event.Ask site (ask.Command command)) = command_words command
event_words (event.Ask site (ask.Status request)) = message_words (codes "QueueStatus") []
event_words (event.Cut site) = codes "cut"
event_words (event.Whole site) = codes "whole"
event_words (event.Take site entry) = codes "take " ++ decimal entry

-- the name of a queue, if there is one
abbrev pub queue_text : Option (List ℕ) → List (List ℕ)
queue_text None = []
queue_text (Some queue) = queue ∷ []

-- the texts of a command that stand between bars
abbrev pub texts_of : Command → List (List ℕ)
texts_of (Add queue interface penalty paused label) = queue ∷ interface ∷ label.name ∷ label.state ∷ []
texts_of (Remove queue interface) = queue ∷ interface ∷ []
texts_of (Pause queue interface pause) = queue_text queue ++ interface ∷ pause.reason ∷ []
texts_of (Penalty queue interface penalty) = queue_text queue ++ interface ∷ []
texts_of (RingInUse queue interface ring) = queue_text queue ++ interface ∷ []
texts_of (Completed queue) = []
texts_of (Abandoned queue) = []

-- whether a text can stand between bars: it has no bar, and no space or tab at its ends
abbrev pub is_plain : List ℕ → Bool
is_plain text = not (list_any is_bar text) && (not (is_blank (slice_index text 0)) && not (is_blank (slice_index text (length text - 1))))

-- whether a line can say an event: each text of a command can stand between bars, and the number of an entry has at most nine digits;
-- a status, which changes nothing, has no line
abbrev pub can_say : Event → Bool
can_say (event.Ask site (ask.Command command)) = list_all is_plain (texts_of command)
can_say (event.Ask site (ask.Status request)) = false
can_say (event.Cut site) = true
can_say (event.Whole site) = true
can_say (event.Take site entry) = nat_lt entry 1000000000

-- the mark before a line that says no event; nothing before another
abbrev pub comment_mark : Bool → List ℕ
comment_mark said = if said then [] else codes "# "

-- the line of an event, a comment if no line can say it
abbrev pub event_line : Event → List ℕ
event_line e = comment_mark (can_say e) ++ (decimal (site_of e) ++ (codes " " ++ event_words e))

-- the script of events: their lines
abbrev pub script_of : List Event → List ℕ
script_of events = flat_map (λ e. event_line e ++ codes "\n") events

-- whether no line says an event
abbrev pub is_unsaid : Event → Bool
is_unsaid e = not (can_say e)

-- ---- values within limits

-- the values of an event are within the limits of their types
abbrev pub HasLimits : Event → Type 0
HasLimits (event.Ask site (ask.Command command)) = IsSite site × IsCommand command
HasLimits e = IsSite (site_of e)
