-- The effects of single steps of a session.
use Rattle.std.specs.Prelude.{ℕ, ◌≡◌, ◌≤◌, ◌<◌, ◌+◌, ◌*◌, ◌⊎◌, Bool, true, false, List, [], ◌∷◌, ◌++◌, length, Option, Some, None, Result, Ok, Err, IfErr, IsErrOf, OnOk}
use Rattle.std.specs.Io.KnownBytes.{Appends, Consumes}
use Rattle.ami_text.specs.declared.feed_fault.FeedFault.TheVariants as feed
use Rattle.ami_text.specs.Devices.{HasTaken}
use Rattle.ami_text.specs.Stream.{Fault, Gives, Reads, Rest}
use Rattle.status_report.specs.declared.asks.Answer.{Answer}
use Rattle.status_report.specs.declared.asks.Ask.{Ask}
use Rattle.ami_session.specs.Checks.{Asks, Reaction, Waiting}
use Rattle.ami_session.specs.FieldValues.{Fields}
use Rattle.ami_session.specs.Text.{reaction_asks, reaction_text}
use Rattle.serve.specs.declared.serve_fault.ServeFault.{ServeFault}
use Rattle.serve.specs.declared.serve_fault.ServeFault.TheVariants.{Read, Write, LineTooLong, TooManyFields, DeskDown, Turns, Memory}
use Rattle.serve.specs.declared.incoming.Incoming.{Incoming}
use Rattle.serve.specs.Desks.{DeskRun}
use Rattle.serve.specs.Faults.{FailsWith}

-- the most bytes that a session may still process: those held, and those that the reads left may return
abbrev pub bytes_ahead : ℕ → List ℕ → ℕ
bytes_ahead reads held = 1024 * reads + length held

-- a client's stream may be read on: the reader works, the stream has shown no fault, and no read that was used has returned the end
pub record MayRead (failed ended : Bool) (incoming : Incoming) : Type 0 where
  pub works : failed ≡ false
  pub feed : incoming.feed.fault ≡ None
  pub goes_on : incoming.reads < 1000000 → ended ≡ false

-- a call has read on: it has used at most the reads that were left, the reader has failed exactly at `Read`, the stream has shown
-- no fault where the call succeeded, and at `Turns` no read is left and none has returned the end
pub record HasRead {T : Type 0} (reads_left_old reads_left_new : ℕ) (failed ended : Bool) (old new : Incoming) (result : Result T ServeFault) : Type 0 where
  pub counted : reads_left_old ≤ reads_left_new + old.reads
  pub reader : FailsWith Read result failed
  pub feed : OnOk result (new.feed.fault ≡ None)
  pub turns : IsErrOf result Turns → (new.reads ≡ 0) × (ended ≡ false)

-- A source has given bytes, at least one and at most 1,024 for each read that was used, and the property holds of the held bytes
-- and these.
pub record HasCome (left_old left_new : Option (List ℕ)) (held : List ℕ) (reads_old reads_new : ℕ) (Holds : List ℕ → Type 0) : Type 0 where
  pub bytes : List ℕ
  pub given : Consumes left_old left_new bytes
  pub many : reads_old ≤ reads_new + length bytes
  pub few : length bytes + 1024 * reads_new ≤ 1024 * reads_old
  pub holds : Holds (held ++ bytes)

-- what is held after a read: the held bytes and the piece, if there was one; otherwise the same as before; unspecified when out of
-- memory
abbrev pub IsHeld : Result Bool ServeFault → List ℕ → List ℕ → List ℕ → Type 0
IsHeld (Ok true) old new stream = new ≡ stream
IsHeld (Ok false) old new stream = (new ≡ stream) × (new ≡ old)
IsHeld (Err Read) old new stream = (new ≡ stream) × (new ≡ old)
IsHeld (Err Turns) old new stream = (new ≡ stream) × (new ≡ old)
IsHeld (Err Memory) old new stream = length stream ≤ length old + 1024
IsHeld (Err Write) old new stream = ⊥
IsHeld (Err LineTooLong) old new stream = ⊥
IsHeld (Err TooManyFields) old new stream = ⊥
IsHeld (Err DeskDown) old new stream = ⊥

-- the stream is the bytes held and read before the last piece, in which there is no message, and that piece, of at most 1,024 bytes
pub record WantsPiece (held stream : List ℕ) : Type 0 where
  pub before : List ℕ
  pub piece : List ℕ
  pub is : stream ≡ (held ++ before) ++ piece
  pub short : length piece ≤ 1024
  pub rest : List ℕ
  pub reads : Reads (held ++ before) [] (Rest rest)

-- no piece was read that wasn't needed
abbrev pub IsWanted : List ℕ → List ℕ → Type 0
IsWanted held stream = (stream ≡ held) ⊎ WantsPiece held stream

-- the first thing in the stream that begins with the held bytes, and what is held after it: a message, the end, or a fault; up to a
-- message or a fault no more was read than was needed
abbrev pub StandsFirst : Result (Option Fields) ServeFault → List ℕ → List ℕ → List ℕ → Type 0
StandsFirst (Ok (Some message)) old new stream = Gives stream (message ∷ []) new × IsWanted old stream
StandsFirst (Ok None) old new stream = Reads stream [] (Rest new)
StandsFirst (Err Read) old new stream = Reads stream [] (Rest new)
StandsFirst (Err Turns) old new stream = Reads stream [] (Rest new)
StandsFirst (Err LineTooLong) old new stream = Reads stream [] (Fault feed.LineTooLong) × IsWanted old stream
StandsFirst (Err TooManyFields) old new stream = Reads stream [] (Fault feed.TooManyFields) × IsWanted old stream
StandsFirst (Err Memory) old new stream = IsWanted old stream
StandsFirst (Err Write) old new stream = ⊥
StandsFirst (Err DeskDown) old new stream = ⊥

-- the desk has answered the ask of a reaction, and this text is to be written
pub record HasReacted {D : Type 0} (Answers : D → Ask → Answer → D → Type 0) (r : Reaction) (d e : D) (text : List ℕ) : Type 0 where
  pub answers : List Answer
  pub run : DeskRun Answers d (reaction_asks r []) answers e
  pub is : text ≡ reaction_text r (λ _. []) answers

-- the desk has answered the ask of a reaction, and a sink has taken the text of the reply
pub record HasSaid {D : Type 0} (Answers : D → Ask → Answer → D → Type 0) (r : Reaction) (d e : D) (taken_old taken_new : Option (List ℕ)) : Type 0 where
  pub text : List ℕ
  pub done : HasReacted Answers r d e text
  pub taken : Appends taken_old taken_new text

-- the desk has answered the ask of a reaction, and a sink has taken a prefix of the reply's text
pub record HasWrittenFront {D : Type 0} (Answers : D → Ask → Answer → D → Type 0) (r : Reaction) (d e : D) (taken_old taken_new : Option (List ℕ)) : Type 0 where
  pub text : List ℕ
  pub done : HasReacted Answers r d e text
  pub taken : HasTaken taken_old taken_new text

-- the desk has refused the ask of a reaction, and nothing was written
pub record IsDown {D : Type 0} (Refuses : D → Ask → D → Type 0) (r : Reaction) (d e : D) (taken_old taken_new : Option (List ℕ)) : Type 0 where
  pub ask : Ask
  pub waiting : Waiting
  pub asked : r ≡ Asks ask waiting
  pub refused : Refuses d ask e
  pub taken : taken_new ≡ taken_old

-- the desk has answered what a reaction asks
pub record HasAnswered {D : Type 0} (Answers : D → Ask → Answer → D → Type 0) (r : Reaction) (d e : D) : Type 0 where
  pub ask : Ask
  pub waiting : Waiting
  pub asked : r ≡ Asks ask waiting
  pub answer : Answer
  pub answered : Answers d ask answer e

-- nothing was written; the reaction had no ask, or the desk has answered it
pub record IsUnsaid {D : Type 0} (Answers : D → Ask → Answer → D → Type 0) (r : Reaction) (d e : D) (taken_old taken_new : Option (List ℕ)) : Type 0 where
  pub taken : taken_new ≡ taken_old
  pub desk : (e ≡ d) ⊎ HasAnswered Answers r d e

-- what was asked and written of a reaction that a fault ends
abbrev pub BreaksOff : {D : Type 0} → (D → Ask → Answer → D → Type 0) → (D → Ask → D → Type 0) → Reaction → D → D → Option (List ℕ) → Option (List ℕ) → ServeFault → Type 0
BreaksOff Answers Refuses r d e taken_old taken_new Write = HasWrittenFront Answers r d e taken_old taken_new
BreaksOff Answers Refuses r d e taken_old taken_new Memory = IsUnsaid Answers r d e taken_old taken_new
BreaksOff Answers Refuses r d e taken_old taken_new DeskDown = IsDown Refuses r d e taken_old taken_new
BreaksOff Answers Refuses r d e taken_old taken_new Read = ⊥
BreaksOff Answers Refuses r d e taken_old taken_new LineTooLong = ⊥
BreaksOff Answers Refuses r d e taken_old taken_new TooManyFields = ⊥
BreaksOff Answers Refuses r d e taken_old taken_new Turns = ⊥

-- a call has performed a reaction: its text was written if the call succeeded, otherwise the call's fault has broken it off; the
-- sink has failed exactly at `Write`
pub record IsPerformed {D T : Type 0} (Answers : D → Ask → Answer → D → Type 0) (Refuses : D → Ask → D → Type 0) (r : Reaction) (d e : D) (taken_old taken_new : Option (List ℕ)) (failed : Bool) (result : Result T ServeFault) : Type 0 where
  pub said : OnOk result (HasSaid Answers r d e taken_old taken_new)
  pub writer : FailsWith Write result failed
  pub fault : IfErr result (λ fault. BreaksOff Answers Refuses r d e taken_old taken_new fault)
