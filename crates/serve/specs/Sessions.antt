-- What a session that is served over devices and a desk has read, asked and written.
use Rattle.std.specs.Prelude.{ℕ, ◌≡◌, ◌≤◌, ◌⊎◌, Bool, true, false, List, [], ◌∷◌, ◌++◌, length, Option}
use Rattle.std.specs.Io.KnownBytes.{Appends, Consumes}
use Rattle.ami_text.specs.Devices.{HasEnded}
use Rattle.ami_text.specs.declared.feed_fault.FeedFault.TheVariants as feed
use Rattle.ami_text.specs.Stream.{Ending, Fault, Gives, IsRest, Reads, Rest}
use Rattle.status_report.specs.declared.asks.Answer.{Answer}
use Rattle.status_report.specs.declared.asks.Ask.{Ask}
use Rattle.ami_session.specs.Checks.{Asks, SessionState, Waiting, reaction}
use Rattle.ami_session.specs.FieldValues.{Fields}
use Rattle.ami_session.specs.Text.{after_all, asks, is_over, session_text}
use Rattle.serve.specs.declared.serve_fault.ServeFault.{ServeFault}
use Rattle.serve.specs.declared.serve_fault.ServeFault.TheVariants.{Read, Write, LineTooLong, TooManyFields, DeskDown, Turns, Memory}
use Rattle.serve.specs.Desks.{DeskRun}

-- a source has given bytes and a sink has taken a text, and the property holds of both
pub record HasCarried (left_old left_new taken_old taken_new : Option (List ℕ)) (Holds : List ℕ → List ℕ → Type 0) : Type 0 where
  pub bytes : List ℕ
  pub text : List ℕ
  pub given : Consumes left_old left_new bytes
  pub taken : Appends taken_old taken_new text
  pub holds : Holds bytes text

-- the session's text for these messages, where a desk answers their asks, which leads it from one state to another
pub record HasText {D : Type 0} (Answers : D → Ask → Answer → D → Type 0) (s : SessionState) (d e : D) (messages : List Fields) (text : List ℕ) : Type 0 where
  pub answers : List Answer
  pub run : DeskRun Answers d (asks s messages) answers e
  pub is : text ≡ session_text s messages answers

-- the bytes end in a piece of at most 1,024 bytes, and those before it have the first of these messages and no others: after the
-- replies to these no further piece was read
pub record EndsInPiece (messages : List Fields) (bytes : List ℕ) : Type 0 where
  pub before : List ℕ
  pub piece : List ℕ
  pub is : bytes ≡ before ++ piece
  pub short : length piece ≤ 1024
  pub earlier : List Fields
  pub later : List Fields
  pub are : messages ≡ earlier ++ later
  pub rest : List ℕ
  pub reads : Reads before earlier (Rest rest)

-- the last of the messages ends the session, none before it does, and the last piece completed it
pub record IsEndedByLast (s : SessionState) (messages : List Fields) (bytes : List ℕ) : Type 0 where
  pub before : List Fields
  pub last : Fields
  pub are : messages ≡ before ++ last ∷ []
  pub goes_on : is_over s before ≡ false
  pub over : is_over s messages ≡ true
  pub in_piece : EndsInPiece before bytes

-- a session was served: the text is that of the messages of the bytes, up to one that ends the session and that the last piece
-- completed, or to the end of a reader that has ended with nothing left
pub record IsServed {D : Type 0} (Answers : D → Ask → Answer → D → Type 0) (s : SessionState) (d e : D) (ended : Bool) (left : Option (List ℕ)) (bytes text : List ℕ) : Type 0 where
  pub messages : List Fields
  pub rest : List ℕ
  pub gives : Gives bytes messages rest
  pub has_text : HasText Answers s d e messages text
  pub at_end : IsEndedByLast s messages bytes ⊎ (IsRest rest × HasEnded ended left)

-- all messages of the bytes have their replies, none of them has ended the session, after them the bytes have only this ending, and
-- no more was read than shows it
pub record AreAnswered {D : Type 0} (Answers : D → Ask → Answer → D → Type 0) (s : SessionState) (d e : D) (ending : Ending) (bytes text : List ℕ) : Type 0 where
  pub messages : List Fields
  pub reads : Reads bytes messages ending
  pub goes_on : is_over s messages ≡ false
  pub has_text : HasText Answers s d e messages text
  pub in_piece : EndsInPiece messages bytes

-- all messages before the last have their replies, none of them has ended the session, no more was read than the last needs, and a
-- prefix of its reply was written
pub record IsAtLast {D : Type 0} (Answers : D → Ask → Answer → D → Type 0) (s : SessionState) (d : D) (messages : List Fields) (bytes text : List ℕ) : Type 0 where
  pub before : List Fields
  pub last : Fields
  pub are : messages ≡ before ++ last ∷ []
  pub goes_on : is_over s before ≡ false
  pub in_piece : EndsInPiece before bytes
  pub left : D
  pub written : List ℕ
  pub part : List ℕ
  pub has_text : HasText Answers s d left before written
  pub is : text ≡ written ++ part

-- the text is a prefix of that for the messages with replies; it ends in the greeting, before which nothing was read, or in the
-- reply to the last message
pub record IsSessionBegun {D : Type 0} (Answers : D → Ask → Answer → D → Type 0) (s : SessionState) (d e : D) (bytes text : List ℕ) : Type 0 where
  pub messages : List Fields
  pub rest : List ℕ
  pub gives : Gives bytes messages rest
  pub more : List ℕ
  pub has_text : HasText Answers s d e messages (text ++ more)
  pub ends : ((messages ≡ []) × (bytes ≡ [])) ⊎ IsAtLast Answers s d messages bytes text

-- the desk has answered the ask of the message after these asks
pub record IsUnreplied {D : Type 0} (Answers : D → Ask → Answer → D → Type 0) (s : SessionState) (d e : D) (messages : List Fields) (bytes : List ℕ) : Type 0 where
  pub last : Fields
  pub rest : List ℕ
  pub gives : Gives bytes (messages ++ last ∷ []) rest
  pub ask : Ask
  pub waiting : Waiting
  pub asked : reaction (after_all s messages) last ≡ Asks ask waiting
  pub answer : Answer
  pub answered : Answers d ask answer e

-- all messages before the last piece have their replies, and some of the piece may; none of them has ended the session, and nothing
-- is written for a further one, but the desk may have answered its ask
pub record IsUnfinished {D : Type 0} (Answers : D → Ask → Answer → D → Type 0) (s : SessionState) (d e : D) (bytes text : List ℕ) : Type 0 where
  pub messages : List Fields
  pub rest : List ℕ
  pub gives : Gives bytes messages rest
  pub in_piece : EndsInPiece messages bytes
  pub goes_on : is_over s messages ≡ false
  pub left : D
  pub has_text : HasText Answers s d left messages text
  pub desk : (e ≡ left) ⊎ IsUnreplied Answers s left e messages bytes

-- all messages before the last have their replies, none of them has ended the session, no more was read than the last needs, and
-- the desk refused its ask in the state after the others
pub record IsRefused {D : Type 0} (Answers : D → Ask → Answer → D → Type 0) (Refuses : D → Ask → D → Type 0) (s : SessionState) (d e : D) (bytes text : List ℕ) : Type 0 where
  pub messages : List Fields
  pub last : Fields
  pub rest : List ℕ
  pub gives : Gives bytes (messages ++ last ∷ []) rest
  pub in_piece : EndsInPiece messages bytes
  pub left : D
  pub goes_on : is_over s messages ≡ false
  pub has_text : HasText Answers s d left messages text
  pub ask : Ask
  pub waiting : Waiting
  pub asked : reaction (after_all s messages) last ≡ Asks ask waiting
  pub refused : Refuses left ask e

-- what holds of the text and the desk after each fault
abbrev pub IsLeftBy : {D : Type 0} → (D → Ask → Answer → D → Type 0) → (D → Ask → D → Type 0) → SessionState → D → D → ServeFault → List ℕ → List ℕ → Type 0
IsLeftBy Answers Refuses s d e Read bytes text = (rest : List ℕ) × AreAnswered Answers s d e (Rest rest) bytes text
IsLeftBy Answers Refuses s d e Turns bytes text = (rest : List ℕ) × AreAnswered Answers s d e (Rest rest) bytes text
IsLeftBy Answers Refuses s d e LineTooLong bytes text = AreAnswered Answers s d e (Fault feed.LineTooLong) bytes text
IsLeftBy Answers Refuses s d e TooManyFields bytes text = AreAnswered Answers s d e (Fault feed.TooManyFields) bytes text
IsLeftBy Answers Refuses s d e DeskDown bytes text = IsRefused Answers Refuses s d e bytes text
IsLeftBy Answers Refuses s d e Write bytes text = IsSessionBegun Answers s d e bytes text
IsLeftBy Answers Refuses s d e Memory bytes text = IsUnfinished Answers s d e bytes text
