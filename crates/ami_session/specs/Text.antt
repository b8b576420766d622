-- The text of a whole session: what it writes for its messages, in order, and for the answers to its asks. (A Manager session
-- begins with a line that greets; its own words are this project's.)
use Rattle.std.specs.Prelude.{ℕ, ◌≡◌, ◌⊎◌, ◌||◌, Bool, true, false, List, [], ◌∷◌, ◌++◌, codes}
use Rattle.ami_text.specs.Stream.{Gives, IsRest}
use Rattle.status_report.specs.declared.asks.Answer.{Answer}
use Rattle.status_report.specs.declared.asks.Ask.{Ask}
use Rattle.ami_session.specs.Checks.{SessionState, Reaction, Replies, Asks, Ends, reaction, after}
use Rattle.ami_session.specs.FieldValues.{Fields}
use Rattle.ami_session.specs.Checks.{answer_reply}

-- the default greeting
abbrev pub own_greeting : List ℕ
own_greeting = codes "Queue Sites Call Manager/1.0.0"

-- the greeting of session `s`: its line, with CR and LF
abbrev pub greeting : SessionState → List ℕ
greeting s = s.greeting ++ codes "\r\n"

-- what a session writes for a reaction, and then by `rest`; an ask takes the first of the answers, and without one nothing more is
-- written
abbrev pub reaction_text : Reaction → (List Answer → List ℕ) → List Answer → List ℕ
reaction_text (Replies bytes) rest answers = bytes ++ rest answers
reaction_text (Ends bytes) rest answers = bytes
reaction_text (Asks ask waiting) rest [] = []
reaction_text (Asks ask waiting) rest (answer ∷ answers) = answer_reply waiting answer ++ rest answers

-- the replies of session `s` to messages, with these answers of the site, up to the first message that ends it, or to all
abbrev pub replies : SessionState → List Fields → List Answer → List ℕ
replies s [] answers = []
replies s (m ∷ ms) answers = reaction_text (reaction s m) (replies (after s m) ms) answers

-- the text of session `s`: its greeting, and its replies to the messages `ms` with the answers `answers`
abbrev pub session_text : SessionState → List Fields → List Answer → List ℕ
session_text s ms answers = greeting s ++ replies s ms answers

-- the asks of a reaction, and then `more`; nothing more after one that ends the session
abbrev pub reaction_asks : Reaction → List Ask → List Ask
reaction_asks (Replies bytes) more = more
reaction_asks (Ends bytes) more = []
reaction_asks (Asks ask waiting) more = ask ∷ more

-- the asks of session `s` for messages, in order
abbrev pub asks : SessionState → List Fields → List Ask
asks s [] = []
asks s (m ∷ ms) = reaction_asks (reaction s m) (asks (after s m) ms)

-- session `s` after messages, one after another
abbrev pub after_all : SessionState → List Fields → SessionState
after_all s [] = s
after_all s (m ∷ ms) = after_all (after s m) ms

-- whether a reaction ends the session
abbrev pub is_end : Reaction → Bool
is_end (Replies bytes) = false
is_end (Asks ask waiting) = false
is_end (Ends bytes) = true

-- whether one of the messages ends session `s`
abbrev pub is_over : SessionState → List Fields → Bool
is_over s [] = false
is_over s (m ∷ ms) = is_end (reaction s m) || is_over (after s m) ms

-- if the message `last`, after those `before`, ends session `s`, no further message has an effect on its text or its asks
pub record NothingFollows (s : SessionState) (before : List Fields) (last : Fields) : Type 0 where
  pub text : (bytes : List ℕ) → reaction (after_all s before) last ≡ Ends bytes → (others more : List Fields) (answers : List Answer)
      → session_text s (before ++ last ∷ others) answers ≡ session_text s (before ++ last ∷ more) answers
  pub asks : (bytes : List ℕ) → reaction (after_all s before) last ≡ Ends bytes → (others more : List Fields) → asks s (before ++ last ∷ others) ≡ asks s (before ++ last ∷ more)

-- the text of session `s` with the answers `answers` is a prefix of its text with these and `more`
pub record IsFrontOfMore (s : SessionState) (ms : List Fields) (answers more : List Answer) : Type 0 where
  pub rest : List ℕ
  pub is : session_text s ms (answers ++ more) ≡ session_text s ms answers ++ rest

-- the text of session `s` for the messages `ms` is a prefix of its text for these and `more`
pub record IsFrontOfLonger (s : SessionState) (ms more : List Fields) (answers : List Answer) : Type 0 where
  pub rest : List ℕ
  pub is : session_text s (ms ++ more) answers ≡ session_text s ms answers ++ rest

-- `ms` are the messages of session `s` in the stream `bytes`: one of them ends it, or there is no other after them
pub record AreOf (s : SessionState) (bytes : List ℕ) (ms : List Fields) : Type 0 where
  pub rest : List ℕ
  pub gives : Gives bytes ms rest
  pub whole : (is_over s ms ≡ true) ⊎ IsRest rest

-- session `s` writes the same for the messages `ms` as for `others`, whatever the answers, and asks the same
pub record SameText (s : SessionState) (ms others : List Fields) : Type 0 where
  pub text : (answers : List Answer) → session_text s ms answers ≡ session_text s others answers
  pub asks : asks s ms ≡ asks s others
