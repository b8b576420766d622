-- The table of the actions that a site answers, which is their definition (the actions and their fields are Asterisk's; which
-- fields are required, how they are read, and the texts are this project's own). A new action is a new row.
use Rattle.std.specs.Prelude.{ℕ, ◌≡◌, ◌++◌, Bool, true, false, not, List, [], ◌∷◌, map as each, Option, Some, None, codes, is_none, is_some, unwrap_or, if◌then◌else◌}
use Rattle.std.specs.List.{find}
use Rattle.std.specs.Option.{option_map}
use Rattle.ami_text.specs.MessageFields.{value_of}
use Rattle.ami_text.specs.Numbers.{number_of}
use Rattle.dots.specs.Values.{PauseState}
use Rattle.replica.specs.declared.command.Command.TheVariants.{Add, Remove, Pause, Penalty, RingInUse}
use Rattle.replica.specs.declared.refusal.Refusal.{Refusal}
use Rattle.status_report.specs.declared.asks.Ask.{Ask}
use Rattle.status_report.specs.declared.asks.Ask.TheVariants.{Command, Status}
use Rattle.ami_session.specs.declared.action.Action.{Action}
use Rattle.ami_session.specs.declared.action.Action.TheVariants.{QueueAdd, QueueRemove, QueuePause, QueuePenalty, QueueMemberRingInUse, QueueStatus}
use Rattle.ami_session.specs.FieldValues.{Fields, is_word, is_yes, id_of, text_of, name_of, penalty_of}
use Rattle.ami_session.specs.Replies.{refusal_text, removal_refusal_text}

-- how the value of a field is read: as a name, which is a text that has a byte, as a text, as a
-- penalty, or as yes or no, which every value is
pub data Kind : Type 0 where
  Name : Kind
  Text : Kind
  Number : Kind
  YesOrNo : Kind

-- a field of an action: its name, and how its value is read
pub record FieldRow : Type 0 where
  pub name : List ℕ
  pub kind : Kind

-- a row of the table: an action's name, its required and its optional fields, in order, its ask where all fields can be read, the
-- text of success, by whether its `Paused` says yes, and the text of a refusal
pub record ActionRow : Type 0 where
  pub name : List ℕ
  pub required : List FieldRow
  pub optional : List FieldRow
  pub ask : Fields → Ask
  pub success : Bool → List ℕ
  pub refusal : Refusal → List ℕ

-- the field `Queue`, which names a queue
abbrev pub queue : FieldRow
queue = record { name = codes "Queue"; kind = Name }

-- the field `Interface`, which names an interface
abbrev pub interface : FieldRow
interface = record { name = codes "Interface"; kind = Name }

-- the field `Penalty`, which has the number of a penalty
abbrev pub penalty : FieldRow
penalty = record { name = codes "Penalty"; kind = Number }

-- the field of the name `name` that says yes or no
abbrev pub yes_or_no : List ℕ → FieldRow
yes_or_no name = record { name = name; kind = YesOrNo }

-- the field of the name `name` that has a text
abbrev pub text : List ℕ → FieldRow
text name = record { name = name; kind = Text }

-- the value of the field `name` of message `m`; an absent one counts as empty
abbrev pub text_at : List ℕ → Fields → List ℕ
text_at name m = unwrap_or (value_of name m) []

-- the penalty that message `m` has; 0 where it has no `Penalty`
abbrev pub penalty_in : Fields → ℕ
penalty_in m = number_of (unwrap_or (value_of (codes "Penalty") m) (codes "0"))

-- whether the field `name` of message `m` says yes
abbrev pub says_yes : List ℕ → Fields → Bool
says_yes name m = is_yes (text_at name m)

-- the pause that message `m` has: where its `Paused` says yes, paused for its `Reason`; else not
-- paused, and a `Reason` is dropped
abbrev pub pause_in : Fields → PauseState
pause_in m = record { paused = says_yes (codes "Paused") m; reason = if says_yes (codes "Paused") m then text_at (codes "Reason") m else [] }

-- `QueueAdd`, by which a member is added to a queue; it may be paused at once
abbrev pub queue_add : ActionRow
queue_add = record {
  name = codes "QueueAdd";
  required = queue ∷ interface ∷ [];
  optional = penalty ∷ yes_or_no (codes "Paused") ∷ text (codes "MemberName") ∷ text (codes "StateInterface") ∷ [];
  ask = λ m.
      Command (Add (text_at (codes "Queue") m) (text_at (codes "Interface") m) (penalty_in m) (says_yes (codes "Paused") m)
      (record { name = text_at (codes "MemberName") m; state = text_at (codes "StateInterface") m }));
  success = λ yes. codes "Added interface to queue";
  refusal = refusal_text;
}

-- `QueueRemove`, by which a member is removed from a queue
abbrev pub queue_remove : ActionRow
queue_remove = record {
  name = codes "QueueRemove";
  required = queue ∷ interface ∷ [];
  optional = [];
  ask = λ m. Command (Remove (text_at (codes "Queue") m) (text_at (codes "Interface") m));
  success = λ yes. codes "Removed interface from queue";
  refusal = removal_refusal_text;
}

-- `QueuePause`, by which an interface is paused or unpaused in a queue, or, without one, in every
-- queue that it is a member of
abbrev pub queue_pause : ActionRow
queue_pause = record {
  name = codes "QueuePause";
  required = interface ∷ yes_or_no (codes "Paused") ∷ [];
  optional = queue ∷ text (codes "Reason") ∷ [];
  ask = λ m. Command (Pause (value_of (codes "Queue") m) (text_at (codes "Interface") m) (pause_in m));
  success = λ yes. if yes then codes "Interface paused successfully" else codes "Interface unpaused successfully";
  refusal = refusal_text;
}

-- `QueuePenalty`, by which an interface gets a penalty in a queue, or, without one, in every queue
-- that it is a member of
abbrev pub queue_penalty : ActionRow
queue_penalty = record {
  name = codes "QueuePenalty";
  required = interface ∷ penalty ∷ [];
  optional = queue ∷ [];
  ask = λ m. Command (Penalty (value_of (codes "Queue") m) (text_at (codes "Interface") m) (penalty_in m));
  success = λ yes. codes "Interface penalty set successfully";
  refusal = refusal_text;
}

-- `QueueMemberRingInUse`, by which it is set whether an interface is rung while its device is in use,
-- in a queue, or, without one, in every queue that it is a member of
abbrev pub queue_member_ring_in_use : ActionRow
queue_member_ring_in_use = record {
  name = codes "QueueMemberRingInUse";
  required = interface ∷ yes_or_no (codes "RingInUse") ∷ [];
  optional = queue ∷ [];
  ask = λ m. Command (RingInUse (value_of (codes "Queue") m) (text_at (codes "Interface") m) (says_yes (codes "RingInUse") m));
  success = λ yes. codes "Interface ring in use set successfully";
  refusal = refusal_text;
}

-- `QueueStatus`, by which the queues are reported; its success is a report, and has no text
abbrev pub queue_status : ActionRow
queue_status = record {
  name = codes "QueueStatus";
  required = [];
  optional = text (codes "Queue") ∷ text (codes "Member") ∷ [];
  ask = λ m. Status (record { queue = value_of (codes "Queue") m; member = value_of (codes "Member") m; action_id = id_of m });
  success = λ yes. [];
  refusal = refusal_text;
}

-- the row of an action in the table
abbrev pub row_of : Action → ActionRow
row_of QueueAdd = queue_add
row_of QueueRemove = queue_remove
row_of QueuePause = queue_pause
row_of QueuePenalty = queue_penalty
row_of QueueMemberRingInUse = queue_member_ring_in_use
row_of QueueStatus = queue_status

-- all actions of the table, in its order
abbrev pub actions : List Action
actions = QueueAdd ∷ QueueRemove ∷ QueuePause ∷ QueuePenalty ∷ QueueMemberRingInUse ∷ QueueStatus ∷ []

-- the action of the name `name`, compared without ASCII case, if there is one
abbrev pub action_named : List ℕ → Option Action
action_named name = find (λ action. is_word name (row_of action).name) actions

-- whether `value` can be read as a field of this kind
abbrev pub can_read : Kind → List ℕ → Bool
can_read Name value = is_some (name_of value)
can_read Text value = is_some (text_of value)
can_read Number value = is_some (penalty_of value)
can_read YesOrNo value = true

-- whether a field has a value and this can't be read as one of its kind
abbrev pub is_unread : Kind → Option (List ℕ) → Bool
is_unread kind None = false
is_unread kind (Some value) = not (can_read kind value)

-- the first of `names` of which message `m` has no field
abbrev pub absent_of : List (List ℕ) → Fields → Option (List ℕ)
absent_of names m = find (λ name. is_none (value_of name m)) names

-- the name of the first required field of `row` that is absent from message `m`
abbrev pub absent_in : ActionRow → Fields → Option (List ℕ)
absent_in row m = absent_of (each (λ f. f.name) row.required) m

-- the name of the first field of `row` that message `m` has and whose value can't be read, the
-- required ones first
abbrev pub unread_in : ActionRow → Fields → Option (List ℕ)
unread_in row m = option_map (λ f. f.name) (find (λ field. is_unread field.kind (value_of field.name m)) (row.required ++ row.optional))

-- message `m` asks `ask` by the row `row` of an action: each field that it has can be read, and the row gives this ask
pub record AsksBy (row : ActionRow) (m : Fields) (ask : Ask) : Type 0 where
  pub readable : unread_in row m ≡ None
  pub asked : ask ≡ row.ask m
