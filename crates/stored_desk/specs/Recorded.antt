-- What holds of a journal beside the history of its steps (this project's own).
use Rattle.std.specs.Prelude.{ℕ, ◌≡◌, ◌++◌, Bool, List, length, refl}
use Rattle.std.specs.Coded.{Coded, code_by, coded×, coded_bool, coded_list}
use Rattle.replica.specs.Site.{SiteState}
use Rattle.site_journal.specs.contracts.step.Step as step
use Rattle.site_journal.specs.Journals.{JournalState, journal_code}
use Rattle.site_journal.specs.Legal.{LeadAll}
use Rattle.site_journal.specs.declared.step.Step.{Step}

-- what is seen of a site under its lock: its journal, the history of its steps, and whether a step is missing in that
pub record RecordedState : Type 0 where
  pub journal : JournalState
  pub history : List Step
  pub lost : Bool

-- what is seen of a site is stored as the tuple of its fields
abbrev pub recorded_code : Coded RecordedState
recorded_code =
    code_by (JournalState × (List Step × Bool)) (coded× journal_code (coded× (coded_list step.the_row.coded) coded_bool))
    (λ s. (s.journal, (s.history, s.lost)))
    (λ p. record { journal = p.0; history = p.1.0; lost = p.1.1 })
    (λ _. refl)

-- a site that began in state `base` can do the steps of `history`, one after another, each by its meaning there
pub record IsLegalHistory (base : SiteState) (history : List Step) : Type 0 where
  pub state : SiteState
  pub lead : LeadAll base history state

-- `history` has the steps that journal `j` has dropped, and then the steps of the journal; they lead a
-- site that began in state `base` to the journal's replica
pub record IsRecorded (base : SiteState) (history : List Step) (j : JournalState) : Type 0 where
  pub dropped : List Step
  pub all : history ≡ dropped ++ j.steps
  pub start : length dropped ≡ j.start
  pub count : length history ≡ j.count
  pub lead : LeadAll base history j.replica

-- `history` is `saved` steps, and then `rest`
pub record IsRest (history rest : List Step) (saved : ℕ) : Type 0 where
  pub before : List Step
  pub all : history ≡ before ++ rest
  pub count : length before ≡ saved

-- `group`, by the relation `Groups`, has the steps of `history` behind the first `saved`
pub record IsGroupOfRest {G : Type 0} (Groups : G → List Step → Type 0) (group : G) (history : List Step) (saved : ℕ) : Type 0 where
  pub rest : List Step
  pub groups : Groups group rest
  pub is_rest : IsRest history rest saved
