-- The output of a script of events, by the steps that journals have.
use Rattle.std.specs.Prelude.{ℕ, ◌≡◌, ◌+◌, ◌++◌, Bool, false, List, [], ◌∷◌, map, Some, None, codes, slice_get, slice_set}
use Rattle.std.specs.List.{All}
use Rattle.ami_session.specs.Checks.{answer_reply}
use Rattle.ami_session.specs.declared.action.Action.{Action}
use Rattle.ami_session.specs.declared.action.Action.TheVariants.{QueueAdd, QueueRemove, QueuePause, QueuePenalty, QueueMemberRingInUse}
use Rattle.replica.specs.declared.command.Command.{Command}
use Rattle.replica.specs.declared.command.Command.TheVariants.{Add, Remove, Pause, Penalty, RingInUse, Completed, Abandoned}
use Rattle.scripts.specs.Answers.{answer_text, entry_text}
use Rattle.site_journal.specs.declared.step.Step.{Step}
use Rattle.site_journal.specs.declared.step.StepDeed.{StepDeed}
use Rattle.site_journal.specs.declared.step.StepDeed.TheVariants.{Asked, Took, Cut, Whole}
use Rattle.site_journal.specs.Journals.{JournalState}
use Rattle.sites_world.specs.declared.event.Event.{Event}
use Rattle.sites_world.specs.Worlds.{site_of}
use Rattle.status_report.specs.declared.asks.Answer.{Answer}
use Rattle.status_report.specs.declared.asks.Ask.TheVariants as ask

-- the reply to a message of this action without ActionID, by whether its `Paused` says yes, with this answer
abbrev pub reply_to : Action → Bool → Answer → List ℕ
reply_to action paused answer = answer_reply (record { action = action; says_yes = paused; id = [] }) answer

-- a site's answer to a command, as the line of the command gives it
abbrev pub answer_shown : Command → Answer → List ℕ
answer_shown (Add queue interface penalty paused label) answer = reply_to QueueAdd paused answer
answer_shown (Remove queue interface) answer = reply_to QueueRemove false answer
answer_shown (Pause queue interface pause) answer = reply_to QueuePause pause.paused answer
answer_shown (Penalty queue interface penalty) answer = reply_to QueuePenalty false answer
answer_shown (RingInUse queue interface ring) answer = reply_to QueueMemberRingInUse false answer
answer_shown (Completed queue) answer = answer_text answer
answer_shown (Abandoned queue) answer = answer_text answer

-- the output for a deed, before which `entries` frames were made; a status has no line
abbrev pub deed_text : ℕ → StepDeed → List ℕ
deed_text entries (Asked (ask.Command command) answer) = answer_shown command answer
deed_text entries (Asked (ask.Status request) answer) = []
deed_text entries (Took bytes) = codes "taken\n"
deed_text entries (Cut None) = codes "nothing\n"
deed_text entries (Cut (Some bytes)) = entry_text entries
deed_text entries (Whole bytes) = entry_text entries

-- how many frames a deed made
abbrev pub frames_in : StepDeed → ℕ
frames_in (Cut (Some bytes)) = 1
frames_in (Whole bytes) = 1
frames_in other = 0

-- `text` is the output for events that do what `left` says: each is the next step that is left of its site, and no step is left in
-- the end; `entries` frames were made before
abbrev pub ShowsSteps : List (List Step) → ℕ → List Event → List ℕ → Type 0
ShowsSteps left entries [] text = (text ≡ []) × All (λ steps. steps ≡ []) left
ShowsSteps left entries (e ∷ es) text =
    (step : Step) × (rest : List Step) × (more : List ℕ) × (slice_get left (site_of e) ≡ Some (step ∷ rest)) × (text ≡ deed_text entries step.deed ++ more)
    × ShowsSteps (slice_set left (site_of e) rest) (entries + frames_in step.deed) es more

-- what a device took between two states is the output of events for the steps that journals have
pub record ShowsJournals (journals : List JournalState) (events : List Event) (before after : List ℕ) : Type 0 where
  pub text : List ℕ
  pub shows : ShowsSteps (map (λ j. j.steps) journals) 0 events text
  pub written : after ≡ before ++ text
