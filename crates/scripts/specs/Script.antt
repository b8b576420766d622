-- The text of a script: the output of its lines in order, over the world of operations.
use Rattle.std.specs.Prelude.{ℕ, ◌≡◌, ◌≤◌, ◌+◌, ◌⊎◌, Bool, true, false, List, [], ◌∷◌, ◌++◌, length, slice_get, Option, Some, None, if◌then◌else◌, Result, IsErrOf}
use Rattle.std.specs.Option.{option_and_then}
use Rattle.std.specs.Io.KnownBytes.{Appends, Consumes}
use Rattle.ami_text.specs.Devices.{HasGiven, HasGivenUpTo}
use Rattle.delta.specs.declared.frame.Frame.{Frame}
use Rattle.delta_codec.specs.Frames.{SpellsIn}
use Rattle.delta_codec.specs.declared.limits.TheConstants.{VERSION}
use Rattle.dots.specs.declared.calls.Calls.{Calls}
use Rattle.dots.specs.declared.calls.Calls.TheVariants.{Completed, Abandoned}
use Rattle.operations.specs.Rows.{dot_view, rows_of}
use Rattle.offer.specs.Offers.{offered}
use Rattle.replica.specs.declared.command.Command.TheVariants as command
use Rattle.replica.specs.declared.refusal.Refusal.TheVariants.{NoSuchQueue}
use Rattle.replica.specs.Steps.{SiteKnowledge}
use Rattle.ami_session.specs.FieldValues.{Fields, name_of}
use Rattle.ami_session.specs.Checks.{Reaction, Replies, Asks, Ends, SessionState, Waiting, answer_reply, reaction}
use Rattle.ami_session.specs.Text.{own_greeting}
use Rattle.sites_world.specs.declared.event.Event.{Event}
use Rattle.sites_world.specs.declared.event.Event.TheVariants as event
use Rattle.sites_world.specs.declared.outcome.Outcome.{Outcome}
use Rattle.sites_world.specs.declared.outcome.Outcome.TheVariants as outcome
use Rattle.sites_world.specs.Worlds.{Entry, World, happens, new_world}
use Rattle.sites_world.specs.WorldStates.{IsFrameOf}
use Rattle.status_report.specs.declared.asks.Ask.{Ask}
use Rattle.status_report.specs.declared.asks.Ask.TheVariants as ask
use Rattle.scripts.specs.declared.script_fault.ScriptFault.{ScriptFault}
use Rattle.scripts.specs.declared.script_fault.ScriptFault.TheVariants.{Read, TooLong}
use Rattle.scripts.specs.Answers.{frame_text, no_entry, offer_text, outcome_text, refused_text, refusal_name, unknown_text}
use Rattle.script_lines.specs.ScriptLines.{Sense, Nothing, Message, Count, Offer, Cut, Whole, Take, Show, Unknown, IsMessage, lines_of, queue_in, sense_of, tried_in}

-- the sites of a script: how many there are, and the names of the queues that each has
pub record ScriptSites : Type 0 where
  pub sites : ℕ
  pub names : List (List ℕ)

-- the result of a line: the world after it, its output, and whether the line is understood
pub record Given : Type 0 where
  pub after : World
  pub text : List ℕ
  pub understood : Bool

-- an event gives the lines of its outcome
abbrev pub given_by_event : ScriptSites → World → Event → Given
given_by_event place w e = let h = happens place.names w e in record { after = h.0; text = outcome_text h.1; understood = true }

-- a session that needs no Login
abbrev pub trusted_session : SessionState
trusted_session = record { greeting = own_greeting; login = None; logged_in = true; tries = None }

-- the reply to a message that waits for the outcome of its ask
abbrev pub waited_reply : Waiting → Outcome → List ℕ
waited_reply waiting (outcome.Answered answer) = answer_reply waiting answer
waited_reply waiting other = []

-- the output of a session's reaction to a message; if it asks, the site is asked
abbrev pub given_by_reaction : ScriptSites → World → ℕ → Reaction → Given
given_by_reaction place w site (Replies bytes) = record { after = w; text = bytes; understood = true }
given_by_reaction place w site (Ends bytes) = record { after = w; text = bytes; understood = true }
given_by_reaction place w site (Asks ask waiting) =
    let h = happens place.names w (event.Ask site ask) in record { after = h.0; text = waited_reply waiting h.1; understood = true }

-- a message gives the reply of a session that needs no Login
abbrev pub given_by_message : ScriptSites → World → ℕ → Fields → Given
given_by_message place w site message = given_by_reaction place w site (reaction trusted_session message)

-- the ask for a call of a queue to be counted
abbrev pub count_of : Calls → List ℕ → Ask
count_of Completed queue = ask.Command (command.Completed queue)
count_of Abandoned queue = ask.Command (command.Abandoned queue)

-- a call that is counted gives the site's answer; where there is no queue name, there is no such queue
abbrev pub given_by_count : ScriptSites → World → ℕ → Calls → Option (List ℕ) → Given
given_by_count place w site calls None = record { after = w; text = refused_text (refusal_name NoSuchQueue); understood = true }
given_by_count place w site calls (Some queue) = given_by_event place w (event.Ask site (count_of calls queue))

-- the offer of a queue at a site that knows this, without the members that were tried; no line if there is no such site
abbrev pub text_of_offer : List (List ℕ) → Option SiteKnowledge → Option (List ℕ) → List (List ℕ) → List ℕ
text_of_offer names None queue tried = []
text_of_offer names (Some s) queue tried = offer_text (option_and_then (λ name. offered names (rows_of (dot_view s.known)) name tried) queue)

-- an offer changes nothing
abbrev pub given_by_offer : ScriptSites → World → ℕ → Option (List ℕ) → List (List ℕ) → Given
given_by_offer place w site queue tried = record {
  after = w;
  text = text_of_offer place.names (slice_get w.sites site) queue tried;
  understood = true;
}

-- bytes spell the frame of an entry, in the version that is written
pub record AreOfEntry (place : ℕ) (entry : Entry) (bytes : List ℕ) : Type 0 where
  pub frame : Frame
  pub is : IsFrameOf place frame entry
  pub spells : SpellsIn VERSION frame bytes

-- an entry that is shown gives the bytes that spell its frame
abbrev pub IsEntryShown : ℕ → Option Entry → List ℕ → Type 0
IsEntryShown place None text = text ≡ no_entry
IsEntryShown place (Some entry) text = (bytes : List ℕ) × AreOfEntry place entry bytes × (text ≡ frame_text bytes)

-- a line that is understood and changes nothing
abbrev pub written_alone : World → List ℕ → Given
written_alone w text = record { after = w; text = text; understood = true }

-- a line that isn't understood gives a line with its number
abbrev pub not_understood : World → ℕ → Given
not_understood w number = record { after = w; text = unknown_text number; understood = false }

-- the result of the line of this number, by its meaning; fields that aren't exactly one message aren't understood
abbrev pub SenseGives : ScriptSites → World → ℕ → Sense → Given → Type 0
SenseGives place w number Nothing given = given ≡ written_alone w []
SenseGives place w number (Message site fields) given =
    ((message : Fields) × IsMessage fields message × (given ≡ given_by_message place w site message))
    ⊎ (((message : Fields) → IsMessage fields message → ⊥) × (given ≡ not_understood w number))
SenseGives place w number (Count site calls queue) given = given ≡ given_by_count place w site calls (name_of queue)
SenseGives place w number (Offer site parts) given = given ≡ given_by_offer place w site (queue_in parts) (tried_in parts)
SenseGives place w number (Cut site) given = given ≡ given_by_event place w (event.Cut site)
SenseGives place w number (Whole site) given = given ≡ given_by_event place w (event.Whole site)
SenseGives place w number (Take site entry) given = given ≡ given_by_event place w (event.Take site entry)
SenseGives place w number (Show entry) given = (text : List ℕ) × IsEntryShown entry (slice_get w.pool entry) text × (given ≡ written_alone w text)
SenseGives place w number Unknown given = given ≡ not_understood w number

-- the result of a line of this number
abbrev pub LineGives : ScriptSites → World → ℕ → List ℕ → Given → Type 0
LineGives place w number line given = SenseGives place w number (sense_of place.sites line) given

-- 1 if the line isn't understood, otherwise 0
abbrev pub unknown_in : Given → ℕ
unknown_in given = if given.understood then 0 else 1

-- the output of lines, the first of which has this number: their text, and how many of them aren't understood
abbrev pub LinesGive : ScriptSites → World → ℕ → List (List ℕ) → List ℕ → ℕ → Type 0
LinesGive place w number [] text unknown = (text ≡ []) × (unknown ≡ 0)
LinesGive place w number (line ∷ lines) text unknown =
    (given : Given) × (more : List ℕ) × (others : ℕ) × LineGives place w number line given
    × LinesGive place given.after (number + 1) lines more others
    × (text ≡ given.text ++ more) × (unknown ≡ unknown_in given + others)

-- a list is a prefix of another
abbrev pub IsFront : List ℕ → List ℕ → Type 0
IsFront front whole = (rest : List ℕ) × (whole ≡ front ++ rest)

-- lines are begun, the first of which has this number: the output is empty, a prefix of the first line's output, or all of that and
-- the output of the others as far as they are begun
abbrev pub AreBegun : ScriptSites → World → ℕ → List (List ℕ) → List ℕ → Type 0
AreBegun place w number [] text = text ≡ []
AreBegun place w number (line ∷ lines) text =
    (text ≡ [])
    ⊎ ((given : Given) × LineGives place w number line given
    × (IsFront text given.text ⊎ ((more : List ℕ) × AreBegun place given.after (number + 1) lines more × (text ≡ given.text ++ more))))

-- lines are done in part, the first of which has this number: the output is the whole output of the first of them, some or none
pub record AreDone (place : ScriptSites) (w : World) (number : ℕ) (lines : List (List ℕ)) (text : List ℕ) : Type 0 where
  pub first : List (List ℕ)
  pub left : List (List ℕ)
  pub is : lines ≡ first ++ left
  pub unknown : ℕ
  pub gives : LinesGive place w number first text unknown

-- a device has taken the text of a script's lines, of which `unknown` aren't understood
pub record HasWritten (place : ScriptSites) (w : World) (script : List ℕ) (before after : Option (List ℕ)) (unknown : ℕ) : Type 0 where
  pub text : List ℕ
  pub is_text : LinesGive place w 1 (lines_of script) text unknown
  pub taken : Appends before after text

-- a device has taken the output of a script's lines as far as they were begun
pub record HasBegunText (place : ScriptSites) (w : World) (script : List ℕ) (before after : Option (List ℕ)) : Type 0 where
  pub text : List ℕ
  pub is_begun : AreBegun place w 1 (lines_of script) text
  pub taken : Appends before after text

-- a device has taken the output of a script's lines as far as they were done
pub record HasDoneLines (place : ScriptSites) (w : World) (script : List ℕ) (before after : Option (List ℕ)) : Type 0 where
  pub text : List ℕ
  pub is_done : AreDone place w 1 (lines_of script) text
  pub taken : Appends before after text

-- the result of reading a script: `Read` if the source failed, and otherwise only after 1,000,000 bytes or more without an end;
-- `TooLong` only after more than 16,777,216 bytes, and every other result only after at most that many
pub record HasReadScript {T : Type 0} (left_before left_after : Option (List ℕ)) (ended failed : Bool) (result : Result T ScriptFault) : Type 0 where
  pub read : IsErrOf result Read → (failed ≡ true) ⊎ ((ended ≡ false) × HasGiven left_before left_after 1000000)
  pub fails : failed ≡ true → IsErrOf result Read
  pub too_long : IsErrOf result TooLong → HasGiven left_before left_after (16777216 + 1)
  pub few : (IsErrOf result TooLong → ⊥) → HasGivenUpTo left_before left_after 16777216

-- a script of at most 16,777,216 bytes was read, and its text was written, over new sites
pub record IsScriptRun (place : ScriptSites) (left_before left_after taken_before taken_after : Option (List ℕ)) (unknown : ℕ) : Type 0 where
  pub script : List ℕ
  pub short : length script ≤ 16777216
  pub read : Consumes left_before left_after script
  pub written : HasWritten place (new_world place.sites) script taken_before taken_after unknown

-- a script of at most 16,777,216 bytes was read, and a prefix of its text was written
pub record IsRunInPart (place : ScriptSites) (left_before left_after taken_before taken_after : Option (List ℕ)) : Type 0 where
  pub script : List ℕ
  pub short : length script ≤ 16777216
  pub read : Consumes left_before left_after script
  pub written : HasBegunText place (new_world place.sites) script taken_before taken_after

-- a script of at most 16,777,216 bytes was read, and its first lines were done, some or none
pub record IsRunInWholeLines (place : ScriptSites) (left_before left_after taken_before taken_after : Option (List ℕ)) : Type 0 where
  pub script : List ℕ
  pub short : length script ≤ 16777216
  pub read : Consumes left_before left_after script
  pub written : HasDoneLines place (new_world place.sites) script taken_before taken_after

-- lines have at most one text and one number of lines that aren't understood, and the output of lines that were begun or done is a
-- prefix of that text
pub record HaveOneText (place : ScriptSites) (w : World) (number : ℕ) (lines : List (List ℕ)) : Type 0 where
  pub text : (text other : List ℕ) (unknown others : ℕ) → LinesGive place w number lines text unknown → LinesGive place w number lines other others → other ≡ text
  pub unknown : (text other : List ℕ) (unknown others : ℕ) → LinesGive place w number lines text unknown → LinesGive place w number lines other others → others ≡ unknown
  pub begun : (text front : List ℕ) (unknown : ℕ) → LinesGive place w number lines text unknown → AreBegun place w number lines front → IsFront front text
  pub done : (text front : List ℕ) (unknown : ℕ) → LinesGive place w number lines text unknown → AreDone place w number lines front → IsFront front text

-- lines have a text, and a number of lines that aren't understood, and the output of lines that were begun or done is a prefix of
-- that text
pub record HaveText (place : ScriptSites) (w : World) (number : ℕ) (lines : List (List ℕ)) : Type 0 where
  pub text : List ℕ
  pub unknown : ℕ
  pub is : LinesGive place w number lines text unknown
  pub begun : (front : List ℕ) → AreBegun place w number lines front → IsFront front text
  pub done : (front : List ℕ) → AreDone place w number lines front → IsFront front text
