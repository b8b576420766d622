-- A session's reaction to a message: the checks, in order (the actions and their fields are Asterisk's, the texts this project's
-- own).
use Rattle.std.specs.Prelude.{ℕ, ◌-◌, Bool, true, false, not, ◌&&◌, List, ◌++◌, codes, nat_le, Option, Some, None, if◌then◌else◌}
use Rattle.std.specs.Option.{option_map, option_map_or}
use Rattle.std.specs.Str.{bytes_eq}
use Rattle.ami_text.specs.MessageFields.{value_of}
use Rattle.status_report.specs.declared.asks.Answer.{Answer}
use Rattle.status_report.specs.declared.asks.Answer.TheVariants.{Done, Refused, Report}
use Rattle.status_report.specs.declared.asks.Ask.{Ask}
use Rattle.ami_session.specs.declared.action.Action.{Action}
use Rattle.ami_session.specs.Actions.{absent_in, action_named, row_of, says_yes, text_at, unread_in}
use Rattle.ami_session.specs.FieldValues.{Fields, is_word, id_of}
use Rattle.ami_session.specs.Replies.{reply}

-- who may log in to a session: this user, with this secret
pub record Login : Type 0 where
  pub user : List ℕ
  pub secret : List ℕ

-- a session: the line that greets its client, who may log in (every client if there is no login), whether a client has, and the
-- number of further refused Logins with which it ends (`None`: it never ends so)
pub record SessionState : Type 0 where
  pub greeting : List ℕ
  pub login : Option Login
  pub logged_in : Bool
  pub tries : Option ℕ

-- whether message `m` is accepted as a Login: its user and secret are those of the session's login,
-- byte by byte, or the session has none
abbrev pub accepts : Option Login → Fields → Bool
accepts None m = true
accepts (Some login) m = bytes_eq (text_at (codes "Username") m) login.user && bytes_eq (text_at (codes "Secret") m) login.secret

-- the reply to message `m` with an error, under its ActionID
abbrev pub error_reply : Fields → List ℕ → List ℕ
error_reply m text = reply (codes "Error") (id_of m) text

-- a message that waits for an answer: its action, whether its `Paused` says yes, and its ActionID
pub record Waiting : Type 0 where
  pub action : Action
  pub says_yes : Bool
  pub id : List ℕ

-- the reply to `w`, a message that waits for an answer, with the site's answer
abbrev pub answer_reply : Waiting → Answer → List ℕ
answer_reply w Done = reply (codes "Success") w.id ((row_of w.action).success w.says_yes)
answer_reply w (Refused refusal) = reply (codes "Error") w.id ((row_of w.action).refusal refusal)
answer_reply w (Report report) = report

-- a session's reaction to a message: it replies by itself, or asks the site and keeps what waits for the answer, or replies and
-- ends
pub data Reaction : Type 0 where
  Replies : List ℕ → Reaction
  Asks : Ask → Waiting → Reaction
  Ends : List ℕ → Reaction

-- the reaction to message `m` of `action`, whose first absent field and first unreadable one are given: an error for the former,
-- else for the latter, else the site is asked
abbrev pub row_reaction : Action → Fields → Option (List ℕ) → Option (List ℕ) → Reaction
row_reaction action m (Some name) unread = Replies (error_reply m (codes "'" ++ name ++ codes "' not specified."))
row_reaction action m None (Some name) = Replies (error_reply m (codes "Field not valid: " ++ name))
row_reaction action m None None = Asks ((row_of action).ask m) (record { action = action; says_yes = says_yes (codes "Paused") m; id = id_of m })

-- the reaction to message `m` of an action that is in the table, by its row; an error for another action
abbrev pub named_reaction : Option Action → Fields → Reaction
named_reaction None m = Replies (error_reply m (codes "Invalid/unknown command"))
named_reaction (Some action) m = row_reaction action m (absent_in (row_of action) m) (unread_in (row_of action) m)

-- whether a session with these tries ends with its next refused Login
abbrev pub is_last_try : Option ℕ → Bool
is_last_try tries = option_map_or (λ n. nat_le n 1) tries false

-- the tries after a refused Login
abbrev pub fewer_tries : Option ℕ → Option ℕ
fewer_tries tries = option_map (λ n. n - 1) tries

-- the reaction of session `s` to message `m` as a Login: it replies whether it is accepted, and ends with the last try
abbrev pub login_reaction : SessionState → Fields → Reaction
login_reaction s m =
    if accepts s.login m then Replies (reply (codes "Success") (id_of m) (codes "Authentication accepted"))
    else if is_last_try s.tries then Ends (error_reply m (codes "Authentication failed"))
    else Replies (error_reply m (codes "Authentication failed"))

-- the reaction of session `s` to message `m` whose field `Action` has this value, if it has the field
abbrev pub reaction_to : SessionState → Fields → Option (List ℕ) → Reaction
reaction_to s m None = Replies (error_reply m (codes "Missing action in request"))
reaction_to s m (Some name) =
    if is_word name (codes "Logoff") then Ends (reply (codes "Goodbye") (id_of m) (codes "Thanks for all the fish."))
    else if is_word name (codes "Login") then login_reaction s m
    else if not s.logged_in then Replies (error_reply m (codes "Permission denied"))
    else named_reaction (action_named name) m

-- what session `s` does at message `m`
abbrev pub reaction : SessionState → Fields → Reaction
reaction s m = reaction_to s m (value_of (codes "Action") m)

-- whether message `m`, whose field `Action` has this value, is a Login that session `s` accepts
abbrev pub logs_in : SessionState → Fields → Option (List ℕ) → Bool
logs_in s m None = false
logs_in s m (Some name) = not (is_word name (codes "Logoff")) && (is_word name (codes "Login") && accepts s.login m)

-- whether message `m`, whose field `Action` has this value, is a Login that session `s` refuses
abbrev pub is_refused_login : SessionState → Fields → Option (List ℕ) → Bool
is_refused_login s m None = false
is_refused_login s m (Some name) = not (is_word name (codes "Logoff")) && (is_word name (codes "Login") && not (accepts s.login m))

-- session `s` after message `m` whose field `Action` has the value `name`: an accepted Login logs in, a refused one uses up a try,
-- and nothing logs out
abbrev pub after_action : SessionState → Fields → Option (List ℕ) → SessionState
after_action s m name =
    if logs_in s m name then record s { logged_in = true }
    else if is_refused_login s m name then record s { tries = fewer_tries s.tries }
    else s

-- session `s` after message `m`
abbrev pub after : SessionState → Fields → SessionState
after s m = after_action s m (value_of (codes "Action") m)
