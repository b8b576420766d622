-- The lines of a script have a text.
use Rattle.std.proofs.Common.{◌≡◌, ◌≤◌, ◌⊎◌, ℕ, ◌+◌, List, [], ◌∷◌, ◌++◌, length, slice_get, Option, Some, None, refl, sym, ap, subst, ◌∙◌, arith, inl, inr}
use Rattle.std.proofs.lemmas.List.{length-replicate}
use Rattle.ami_text.specs.MessageFields.{NameAndValue}
use Rattle.ami_text.specs.Stream.{Ending, Fault, Reads, Rest}
use Rattle.dots.specs.declared.calls.Calls.{Calls}
use Rattle.dots.specs.declared.calls.Calls.TheVariants.{Completed, Abandoned}
use Rattle.dots.specs.declared.limits.TheConstants.{SITES}
use Rattle.dots.specs.Values.{IsCount, IsSite}
use Rattle.operations.specs.FrameLimits.{FitsInFrame}
use Rattle.operations.specs.Knowledge.{Knowledge}
use Rattle.delta.specs.declared.frame.Frame.{Frame}
use Rattle.delta.specs.Standing.{IsDeltaOf}
use Rattle.delta_codec.specs.Fitting.{FitsFormat}
use Rattle.delta_codec.specs.Frames.{SpellsIn}
use Rattle.delta_codec.specs.declared.limits.TheConstants.{VERSION}
use Rattle.replica.specs.declared.command.Command.{Command}
use Rattle.replica.specs.Changes.{change_of}
use Rattle.replica.specs.Promises.{IsChange}
use Rattle.replica.specs.Queues.{AreQueues}
use Rattle.replica.specs.Steps.{new_site}
use Rattle.status_report.specs.declared.asks.Ask.TheVariants as ask
use Rattle.ami_session.specs.Checks.{Asks, Ends, Reaction, Replies, SessionState, Waiting, reaction}
use Rattle.ami_session.specs.FieldValues.{Fields, name_of}
use Rattle.sites_world.specs.declared.event.Event.{Event}
use Rattle.sites_world.specs.declared.event.Event.TheVariants as event
use Rattle.sites_world.specs.Fitting.{EntriesFit, EntriesHaveFrames, IsEntryThatFits}
use Rattle.sites_world.specs.Holding.{RunsGrow}
use Rattle.sites_world.specs.Promises.{EventsKeepLimits, LeadsOn, WorldsAreWithinLimits}
use Rattle.sites_world.specs.WithinLimits.{HasValuesWithinLimits, KnowsWithinLimits}
use Rattle.sites_world.specs.Worlds.{Entry, IsReached, World, happens, new_world}
use Rattle.sites_world.proofs.Lists.{place_in}
use Rattle.script_lines.specs.ScriptLines.{IsMessage, Sense, Nothing, Message, Count, Offer, Cut, Whole, Take, Show, Unknown, lines_of, queue_in, sense_of, stream_of, tried_in}
use Rattle.scripts.specs.Answers.{frame_text, no_entry}
use Rattle.scripts.proofs.OneText.{HasOneDelta, HasOneSpelling, OneList, begun_front, done_front}
use Rattle.scripts.specs.Script.{Given, HaveText, IsEntryShown, LinesGive, ScriptSites, SenseGives, count_of, given_by_count, given_by_event, given_by_message, given_by_offer, given_by_reaction, not_understood, trusted_session, unknown_in, written_alone}

-- the messages of a stream
abbrev Messages : Type 0
Messages = List (List NameAndValue)

-- what other crates promise
pub record Laws : Type 0 where
  pub outcome : (bytes : List ℕ) → (messages : Messages) × (ending : Ending) × Reads bytes messages ending
  pub messages : OneList
  pub ending : (bytes : List ℕ) (messages others : Messages) (ending other : Ending) → Reads bytes messages ending → Reads bytes others other → ending ≡ other
  pub one_delta : HasOneDelta
  pub one_spelling : HasOneSpelling
  pub frames : EntriesHaveFrames
  pub fits : (frame : Frame) (k : Knowledge) → FitsInFrame k → IsDeltaOf frame.delta k → IsSite frame.maker → IsCount frame.number → FitsFormat frame
  pub spelling : (frame : Frame) → FitsFormat frame → (bytes : List ℕ) × SpellsIn VERSION frame bytes
  pub asked : (s : SessionState) (message : Fields) (command : Command) (waiting : Waiting) → reaction s message ≡ Asks (ask.Command command) waiting → IsChange (change_of command)
  pub entries : EntriesFit
  pub limits : EventsKeepLimits
  pub leads : LeadsOn
  pub grows : RunsGrow

-- a world of a script: events lead to it, and its operations are within their limits
record IsGood (place : ScriptSites) (w : World) : Type 0 where
  reached : IsReached place.names place.sites w
  within : KnowsWithinLimits w

-- what a line gives, with the world after it
record GivenByLine (place : ScriptSites) (w : World) (number : ℕ) (sense : Sense) : Type 0 where
  given : Given
  gives : SenseGives place w number sense given
  good : IsGood place given.after

-- a count has no values that could be past a limit
count_values : (site : ℕ) (calls : Calls) (queue : List ℕ) → HasValuesWithinLimits (event.Ask site (count_of calls queue))
count_values site Completed queue = tt
count_values site Abandoned queue = tt

module _ (laws : Laws) where
  -- fields are one message, or aren't
  is_message : (fields : List ℕ) → ((message : Fields) × IsMessage fields message) ⊎ ((message : Fields) → IsMessage fields message → ⊥)
  is_message fields = let o = laws.outcome (stream_of fields) in by o.0 o.1 o.2
    where
      by : (messages : Messages) (ending : Ending) → Reads (stream_of fields) messages ending
          → ((message : Fields) × IsMessage fields message) ⊎ ((message : Fields) → IsMessage fields message → ⊥)
      by [] ending reads = inr (λ message is. let same = laws.messages (stream_of fields) [] (message ∷ []) ending (Rest is.0) reads is.1 in (cc))
      by (m ∷ []) (Rest rest) reads = inl (m, (rest, reads))
      by (m ∷ []) (Fault fault) reads = inr (λ message is. let same = laws.ending (stream_of fields) (m ∷ []) (message ∷ []) (Fault fault) (Rest is.0) reads is.1 in (cc))
      by (m ∷ n ∷ ms) ending reads = inr (λ message is. let same = laws.messages (stream_of fields) (m ∷ n ∷ ms) (message ∷ []) ending (Rest is.0) reads is.1 in (cc))

  -- an entry that fits is shown
  shown : (place : ℕ) (entry : Option Entry) → ((e : Entry) → entry ≡ Some e → IsEntryThatFits e) → (text : List ℕ) × IsEntryShown place entry text
  shown place None fits = (no_entry, refl)
  shown place (Some entry) fits =
      let is = fits entry refl in
      let frame = laws.frames place entry is in
      let format = laws.fits frame.0 entry.carried is.carried frame.1.delta (subst IsSite (sym frame.1.maker) is.maker) (subst IsCount (sym frame.1.number) is.number) in
      let bytes = laws.spelling frame.0 format in
      (frame_text bytes.0, (bytes.0, record { frame = frame.0; is = frame.1; spells = bytes.1 }, refl))

  -- a world that events lead to has as many sites as at first
  as_many : (names : List (List ℕ)) (sites : ℕ) (w : World) → IsReached names sites w → length w.sites ≡ sites
  as_many names sites w reached =
      ap (λ v. length v.sites) (sym reached.is) ∙ (laws.grows names (new_world sites) reached.events).count ∙ length-replicate sites new_site

  module _ (place : ScriptSites) (queues : AreQueues place.names) (few : place.sites ≤ SITES) where
    after_event : (w : World) (e : Event) → IsGood place w → HasValuesWithinLimits e → IsGood place (happens place.names w e).0
    after_event w e good values = record {
      reached = laws.leads place.names place.sites w (e ∷ []) good.reached;
      within = laws.limits place.names w e queues (subst (λ n. n ≤ SITES) (sym (as_many place.names place.sites w good.reached)) few) values good.within;
    }

    after_reaction : (w : World) (site : ℕ) (message : Fields) → IsGood place w → (r : Reaction) → reaction trusted_session message ≡ r → IsGood place (given_by_reaction place w site r).after
    after_reaction w site message good (Replies bytes) is = good
    after_reaction w site message good (Ends bytes) is = good
    after_reaction w site message good (Asks (ask.Command command) waiting) is = after_event w (event.Ask site (ask.Command command)) good (laws.asked trusted_session message command waiting is)
    after_reaction w site message good (Asks (ask.Status request) waiting) is = after_event w (event.Ask site (ask.Status request)) good tt

    after_count : (w : World) (site : ℕ) (calls : Calls) (queue : Option (List ℕ)) → IsGood place w → IsGood place (given_by_count place w site calls queue).after
    after_count w site calls None good = good
    after_count w site calls (Some queue) good = after_event w (event.Ask site (count_of calls queue)) good (count_values site calls queue)

    -- each line gives something
    gives : (w : World) (number : ℕ) (sense : Sense) → IsGood place w → GivenByLine place w number sense
    gives w number Nothing good = record { given = written_alone w []; gives = refl; good = good }
    gives w number Unknown good = record { given = not_understood w number; gives = refl; good = good }
    gives w number (Count site calls queue) good = record { given = given_by_count place w site calls (name_of queue); gives = refl; good = after_count w site calls (name_of queue) good }
    gives w number (Offer site parts) good = record { given = given_by_offer place w site (queue_in parts) (tried_in parts); gives = refl; good = good }
    gives w number (Cut site) good = record { given = given_by_event place w (event.Cut site); gives = refl; good = after_event w (event.Cut site) good tt }
    gives w number (Whole site) good = record { given = given_by_event place w (event.Whole site); gives = refl; good = after_event w (event.Whole site) good tt }
    gives w number (Take site entry) good = record { given = given_by_event place w (event.Take site entry); gives = refl; good = after_event w (event.Take site entry) good tt }
    gives w number (Show entry) good =
        let is = shown entry (slice_get w.pool entry) (λ e found. laws.entries place.names place.sites w e good.reached few good.within (place_in w.pool entry e found)) in
        record { given = written_alone w is.0; gives = (is.0, is.1, refl); good = good }
    gives w number (Message site fields) good = elim (is_message fields) [
      | inl is ↦ record {
        given = given_by_message place w site is.0;
        gives = inl (is.0, is.1, refl);
        good = after_reaction w site is.0 good (reaction trusted_session is.0) refl;
      }
      | inr none ↦ record { given = not_understood w number; gives = inr (none, refl); good = good }
    ]

    lines_give : (w : World) (number : ℕ) (lines : List (List ℕ)) → IsGood place w → (text : List ℕ) × (unknown : ℕ) × LinesGive place w number lines text unknown
    lines_give w number [] good = ([], 0, (refl, refl))
    lines_give w number (line ∷ lines) good =
        let one = gives w number (sense_of place.sites line) good in
        let rest = lines_give one.given.after (number + 1) lines one.good in
        (one.given.text ++ rest.0, unknown_in one.given + rest.1, (one.given, rest.0, rest.1, one.gives, rest.2, refl, refl))

  pub lines_have_text : (place : ScriptSites) (w : World) (number : ℕ) (lines : List (List ℕ)) → AreQueues place.names → place.sites ≤ SITES
      → IsReached place.names place.sites w → KnowsWithinLimits w → HaveText place w number lines
  lines_have_text place w number lines queues few reached within =
      let text = lines_give place queues few w number lines (record { reached = reached; within = within }) in
      record {
        text = text.0;
        unknown = text.1;
        is = text.2;
        begun = λ front begun. begun_front laws.messages laws.one_delta laws.one_spelling place w number lines text.0 front text.1 text.2 begun;
        done = λ front done. done_front laws.messages laws.one_delta laws.one_spelling place w number lines text.0 front text.1 text.2 done;
      }

  -- nothing is known in a new world
  new_within : (names : List (List ℕ)) (sites : ℕ) → WorldsAreWithinLimits → AreQueues names → sites ≤ SITES → KnowsWithinLimits (new_world sites)
  new_within names sites limits queues few = limits names sites [] queues few (λ i d lt. absurd (omega (arith, lt)))

  pub script_has_text : (place : ScriptSites) (script : List ℕ) → WorldsAreWithinLimits → AreQueues place.names → place.sites ≤ SITES
      → HaveText place (new_world place.sites) 1 (lines_of script)
  script_has_text place script limits queues few =
      lines_have_text place (new_world place.sites) 1 (lines_of script) queues few (record { events = []; is = refl }) (new_within place.names place.sites limits queues few)
