-- Rows that lead from one state of a site to another.
use Rattle.std.specs.Prelude.{ℕ, ◌≡◌, ◌⊎◌, List, [], ◌∷◌, Some}
use Rattle.replica.specs.Site.{IsSameSite, SiteState}
use Rattle.site_journal.specs.declared.step.Step.{Step}
use Rattle.site_journal.specs.Legal.{Leads}
use Rattle.stored_steps.specs.declared.base.StoredBase.{StoredBase}
use Rattle.stored_steps.specs.Bases.{IsOfBase}
use Rattle.stored_steps.specs.StartRows.{start_row}
use Rattle.stored_steps.specs.StepRows.{IsWithinLimits, row_of}
use Rattle.stored_steps.specs.Stored.{Stored}

-- the step that a row stands for leads a site from state `from` to state `to`
pub record StepRowLeads (from : SiteState) (row : Stored) (to : SiteState) : Type 0 where
  pub step : Step
  pub row_is : row_of step ≡ Some row
  pub within : IsWithinLimits step
  pub leads : Leads from step.deed to

-- a row leads a site from state `from` to state `to`: its step does, or it is of a start, which changes nothing
abbrev pub RowLeads : SiteState → Stored → SiteState → Type 0
RowLeads from row to = StepRowLeads from row to ⊎ ((row ≡ start_row) × IsSameSite from to)

-- rows, one after another, lead a site from state `from` to state `to`
abbrev pub RowsLead : SiteState → List Stored → SiteState → Type 0
RowsLead from [] to = IsSameSite from to
RowsLead from (row ∷ rows) to = (mid : SiteState) × RowLeads from row mid × RowsLead mid rows to

-- rows make a site of this number with these queues: the first is of a base of it, and the others lead it to some state
pub record MakeSite (site : ℕ) (names : List (List ℕ)) (rows : List Stored) : Type 0 where
  pub base : StoredBase
  pub first : Stored
  pub rest : List Stored
  pub to : SiteState
  pub rows_are : rows ≡ first ∷ rest
  pub base_is : IsOfBase base first
  pub site_is : base.replica.site ≡ site
  pub names_are : base.replica.names ≡ names
  pub lead : RowsLead base.replica rest to
