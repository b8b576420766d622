-- A site that is built again of the rows of its store.
use Rattle.std.specs.Prelude.{◌≡◌, ◌⊎◌, ◌≤◌, ◌+◌, ◌-◌, ◌^◌, min, List, [], ◌∷◌, ◌++◌, length, not, filter, count_by}
use Rattle.std.specs.List.{All}
use Rattle.replica.specs.Site.{SiteState}
use Rattle.site_journal.specs.declared.step.Step.{Step}
use Rattle.site_journal.specs.Journals.{HasAdded, HasDropped, IsFull, IsJournal, JournalState}
use Rattle.stored_steps.specs.declared.base.StoredBase.{StoredBase}
use Rattle.stored_steps.specs.declared.restored_site.RestoredSite.{RestoredSite}
use Rattle.stored_steps.specs.Bases.{IsReadBase}
use Rattle.stored_steps.specs.RowsLead.{RowsLead}
use Rattle.stored_steps.specs.StartRows.{is_start}
use Rattle.stored_steps.specs.StepRows.{IsWithinLimits, rows_of}
use Rattle.stored_steps.specs.Stored.{Stored}

-- the rows that are of no start
abbrev pub step_rows : List Stored → List Stored
step_rows rows = filter (λ row. not (is_start row)) rows

-- Rows were done again, which led a journal from site `from` to where it is: it has the steps of the last rows, and dropped those of the
-- rows before, if there are more steps than it may have.
pub record HasReplayed (from : SiteState) (rows : List Stored) (journal : JournalState) : Type 0 where
  pub dropped : List Stored
  pub kept : List Stored
  pub rows_are : rows ≡ dropped ++ kept
  pub begun : RowsLead from dropped journal.base
  pub led : RowsLead from rows journal.replica
  pub steps : rows_of journal.steps ≡ step_rows kept
  pub within : All IsWithinLimits journal.steps
  pub count : journal.count ≡ length (step_rows rows)
  pub all : length (step_rows rows) ≤ journal.limit → dropped ≡ []

-- A site is what the rows of its store say: its journal began from the replica of the base, and the further rows were done again.
pub record IsRestoredSite (rows : List Stored) (site : RestoredSite) : Type 0 where
  pub first : Stored
  pub rest : List Stored
  pub rows_are : rows ≡ first ∷ rest
  pub base : StoredBase
  pub base_is : IsReadBase first base
  pub name : site.name ≡ base.name
  pub starts : site.starts ≡ min (base.starts + count_by is_start rest) (2 ^ 64 - 1)
  pub replayed : HasReplayed base.replica rest site.journal

-- a journal has room for one step more: it is as before, or it was full and has dropped its steps
abbrev pub HasRoom : JournalState → JournalState → Type 0
HasRoom old new = (new ≡ old) ⊎ (IsJournal old × IsFull old × HasDropped old new)

-- a step was done again, in a journal that made room for it
pub record HasReplayedStep (old : JournalState) (step : Step) (new : JournalState) : Type 0 where
  pub mid : JournalState
  pub room : HasRoom old mid
  pub added : HasAdded mid step new
