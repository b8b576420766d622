-- What a message asks has values within their limits: its fields were read, or it asks nothing.
use Rattle.std.proofs.Common.{◌≡◌, ◌≤◌, ℕ, Bool, true, false, true≢false, cond, not, nat_lt, List, [], ◌∷◌, ◌++◌, length, map as each, Option, Some, None, codes, if◌then◌else◌, is_none, is_some, unwrap_or, refl, sym, ap, subst, arith}
use Rattle.std.specs.Char.{is_ascii_digit}
use Rattle.std.specs.List.{find, list_all, list_any}
use Rattle.std.specs.Option.{option_and_then, option_map}
use Rattle.std.proofs.lemmas.Bool.Decides.{nat_tests}
use Rattle.dots.specs.declared.limits.TheConstants.{MOST_PENALTY, TEXT_BYTES}
use Rattle.dots.specs.Values.{IsName, IsPenalty, IsText, is_bad_byte}
use Rattle.dots.specs.WithinLimits.{IsPause}
use Rattle.ami_text.specs.MessageFields.{value_of}
use Rattle.ami_text.specs.Numbers.{number_of}
use Rattle.replica.specs.declared.command.Command.{Command}
use Rattle.replica.specs.Changes.{change_of}
use Rattle.replica.specs.Promises.{IsChange}
use Rattle.status_report.specs.declared.asks.Ask.{Ask}
use Rattle.status_report.specs.declared.asks.Ask.TheVariants.{Command as asked_command, Status}
use Rattle.ami_session.specs.declared.action.Action.{Action}
use Rattle.ami_session.specs.declared.action.Action.TheVariants.{QueueAdd, QueueRemove, QueuePause, QueuePenalty, QueueMemberRingInUse, QueueStatus}
use Rattle.ami_session.specs.Actions.{FieldRow, Name, Text, Number, absent_in, absent_of, action_named, is_unread, row_of, says_yes, text_at, unread_in}
use Rattle.ami_session.specs.Checks.{Asks, Ends, Replies, SessionState, Waiting, accepts, error_reply, is_last_try, login_reaction, named_reaction, reaction, reaction_to, row_reaction}
use Rattle.ami_session.specs.FieldValues.{Fields, as_penalty, id_of, is_word, name_of, penalty_of, text_of}
use Rattle.ami_session.specs.Replies.{reply}

-- ---- values

text_is : (v : List ℕ) → is_some (text_of v) ≡ true → IsText v
text_is v h = by (nat_lt TEXT_BYTES (length v)) (list_any is_bad_byte v) refl refl h
  where
    few : (n most : ℕ) → nat_lt most n ≡ false → n ≤ most
    few n most h = grind (arith, nat_tests)

    by : (a b : Bool) → nat_lt TEXT_BYTES (length v) ≡ a → list_any is_bad_byte v ≡ b → is_some (if a then None else if b then None else Some v) ≡ true → IsText v
    by true b e f h = absurd (true≢false (sym h))
    by false true e f h = absurd (true≢false (sym h))
    by false false e f h = record { short = few (length v) TEXT_BYTES e; clean = f }

name_is : (v : List ℕ) → is_some (name_of v) ≡ true → IsName v
name_is [] h = absurd (true≢false (sym h))
name_is (b ∷ bs) h = record { text = text_is (b ∷ bs) h; present = omega arith }

penalty_is : (v : List ℕ) → is_some (penalty_of v) ≡ true → IsPenalty (number_of v)
penalty_is [] h = absurd (true≢false (sym h))
penalty_is (d ∷ ds) h = by (nat_lt 10 (length (d ∷ ds))) (not (list_all is_ascii_digit (d ∷ ds))) h
  where
    n : ℕ
    n = number_of (d ∷ ds)

    few : (k most : ℕ) → nat_lt most k ≡ false → k ≤ most
    few k most h = grind (arith, nat_tests)

    last : (c : Bool) → nat_lt MOST_PENALTY n ≡ c → is_some (if c then None else Some n) ≡ true → IsPenalty n
    last true e h = absurd (true≢false (sym h))
    last false e h = few n MOST_PENALTY e

    by : (a b : Bool) → is_some (option_and_then as_penalty (if a then None else if b then None else Some n)) ≡ true → IsPenalty n
    by true b h = absurd (true≢false (sym h))
    by false true h = absurd (true≢false (sym h))
    by false false h = last (nat_lt MOST_PENALTY n) refl h

passed : (b : Bool) → not b ≡ false → b ≡ true
passed true h = refl
passed false h = absurd (true≢false h)

no_text : IsText []
no_text = record { short = omega arith; clean = refl }

name_value : (o : Option (List ℕ)) → is_none o ≡ false → is_unread Name o ≡ false → IsName (unwrap_or o [])
name_value None there read = absurd (true≢false there)
name_value (Some v) there read = name_is v (passed (is_some (name_of v)) read)

text_value : (o : Option (List ℕ)) → is_unread Text o ≡ false → IsText (unwrap_or o [])
text_value None read = no_text
text_value (Some v) read = text_is v (passed (is_some (text_of v)) read)

penalty_value : (o : Option (List ℕ)) → is_unread Number o ≡ false → IsPenalty (number_of (unwrap_or o (codes "0")))
penalty_value None read = omega arith
penalty_value (Some v) read = penalty_is v (passed (is_some (penalty_of v)) read)

pause_is : (yes : Bool) (reason : List ℕ) → IsText reason → IsPause (record { paused = yes; reason = if yes then reason else [] })
pause_is true reason is = record { reason = is; none = λ h. absurd (true≢false h) }
pause_is false reason is = record { reason = no_text; none = λ h. refl }

-- ---- fields

-- each of these fields can be read, where it is there
abbrev AreRead : Fields → List FieldRow → Type 0
AreRead m [] = Unit {0}
AreRead m (field ∷ fields) = (is_unread field.kind (value_of field.name m) ≡ false) × AreRead m fields

all_read : (m : Fields) (fields : List FieldRow) → option_map (λ f. f.name) (find (λ field. is_unread field.kind (value_of field.name m)) fields) ≡ None → AreRead m fields
all_read m [] h = tt
all_read m (field ∷ fields) h = by (is_unread field.kind (value_of field.name m)) refl h (all_read m fields)
  where
    by : (b : Bool) → is_unread field.kind (value_of field.name m) ≡ b
        → option_map (λ f. f.name) (cond b (Some field) (find (λ field. is_unread field.kind (value_of field.name m)) fields)) ≡ None
        → (option_map (λ f. f.name) (find (λ field. is_unread field.kind (value_of field.name m)) fields) ≡ None → AreRead m fields) → AreRead m (field ∷ fields)
    by true e h rest = absurd (true≢false (ap is_some h))
    by false e h rest = (e, rest h)

-- each of these names has a field
abbrev AreThere : Fields → List (List ℕ) → Type 0
AreThere m [] = Unit {0}
AreThere m (name ∷ names) = (is_none (value_of name m) ≡ false) × AreThere m names

all_there : (m : Fields) (names : List (List ℕ)) → absent_of names m ≡ None → AreThere m names
all_there m [] h = tt
all_there m (name ∷ names) h = by (is_none (value_of name m)) refl h (all_there m names)
  where
    by : (b : Bool) → is_none (value_of name m) ≡ b → cond b (Some name) (absent_of names m) ≡ None → (absent_of names m ≡ None → AreThere m names) → AreThere m (name ∷ names)
    by true e h rest = absurd (true≢false (ap is_some h))
    by false e h rest = (e, rest h)

-- ---- actions

-- what is asked has values within their limits
abbrev IsAskWithinLimits : Ask → Type 0
IsAskWithinLimits (asked_command command) = IsChange (change_of command)
IsAskWithinLimits (Status request) = Unit {0}

-- what an action asks, where its required fields are there and all can be read
asked_within : (action : Action) (m : Fields) → AreThere m (each (λ f. f.name) (row_of action).required) → AreRead m ((row_of action).required ++ (row_of action).optional)
    → IsAskWithinLimits ((row_of action).ask m)
asked_within QueueAdd m has is = (
  name_value (value_of (codes "Interface") m) has.1.0 is.1.0,
  (
    penalty_value (value_of (codes "Penalty") m) is.1.1.0,
    record { name = text_value (value_of (codes "MemberName") m) is.1.1.1.1.0; state = text_value (value_of (codes "StateInterface") m) is.1.1.1.1.1.0 },
  ),
)
asked_within QueueRemove m has is = name_value (value_of (codes "Interface") m) has.1.0 is.1.0
asked_within QueuePause m has is = (
  name_value (value_of (codes "Interface") m) has.0 is.0,
  pause_is (says_yes (codes "Paused") m) (text_at (codes "Reason") m) (text_value (value_of (codes "Reason") m) is.1.1.1.0),
)
asked_within QueuePenalty m has is = (name_value (value_of (codes "Interface") m) has.0 is.0, penalty_value (value_of (codes "Penalty") m) is.1.0)
asked_within QueueMemberRingInUse m has is = (name_value (value_of (codes "Interface") m) has.0 is.0, tt)
asked_within QueueStatus m has is = tt

row_within : (action : Action) (m : Fields) (ask : Ask) (w : Waiting) → row_reaction action m (absent_in (row_of action) m) (unread_in (row_of action) m) ≡ Asks ask w → IsAskWithinLimits ask
row_within action m ask w h = by (absent_in (row_of action) m) (unread_in (row_of action) m) refl refl h
  where
    by : (x y : Option (List ℕ)) → absent_in (row_of action) m ≡ x → unread_in (row_of action) m ≡ y → row_reaction action m x y ≡ Asks ask w → IsAskWithinLimits ask
    by (Some name) y e f h = absurd (cc)
    by None (Some name) e f h = absurd (cc)
    by None None e f h =
        let same : (row_of action).ask m ≡ ask = cc in
        subst IsAskWithinLimits same
        (asked_within action m (all_there m (each (λ f. f.name) (row_of action).required) e) (all_read m ((row_of action).required ++ (row_of action).optional) f))

named_within : (o : Option Action) (m : Fields) (ask : Ask) (w : Waiting) → named_reaction o m ≡ Asks ask w → IsAskWithinLimits ask
named_within None m ask w h = absurd (cc)
named_within (Some action) m ask w h = row_within action m ask w h

login_asks_nothing : (s : SessionState) (m : Fields) (ask : Ask) (w : Waiting) → login_reaction s m ≡ Asks ask w → ⊥
login_asks_nothing s m ask w h = by (accepts s.login m) (is_last_try s.tries) h
  where
    by : (b last : Bool)
        → (if b then Replies (reply (codes "Success") (id_of m) (codes "Authentication accepted")) else if last then Ends (error_reply m (codes "Authentication failed"))
        else Replies (error_reply m (codes "Authentication failed"))) ≡ Asks ask w → ⊥
    by true last h = (cc)
    by false true h = (cc)
    by false false h = (cc)

reaction_within : (s : SessionState) (m : Fields) (o : Option (List ℕ)) (ask : Ask) (w : Waiting) → reaction_to s m o ≡ Asks ask w → IsAskWithinLimits ask
reaction_within s m None ask w h = absurd (cc)
reaction_within s m (Some name) ask w h = by (is_word name (codes "Logoff")) (is_word name (codes "Login")) (not s.logged_in) h
  where
    by : (a b c : Bool)
        → (if a then Ends (reply (codes "Goodbye") (id_of m) (codes "Thanks for all the fish.")) else if b then login_reaction s m
        else if c then Replies (error_reply m (codes "Permission denied")) else named_reaction (action_named name) m) ≡ Asks ask w → IsAskWithinLimits ask
    by true b c h = absurd (cc)
    by false true c h = absurd (login_asks_nothing s m ask w h)
    by false false true h = absurd (cc)
    by false false false h = named_within (action_named name) m ask w h

pub what_is_asked : (s : SessionState) (m : Fields) (command : Command) (w : Waiting) → reaction s m ≡ Asks (asked_command command) w → IsChange (change_of command)
what_is_asked s m command w h = reaction_within s m (value_of (codes "Action") m) (asked_command command) w h
