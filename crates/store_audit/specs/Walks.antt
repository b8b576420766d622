-- The journal of a site, whose steps are those that the rows of its store say.
use Rattle.std.specs.Prelude.{ℕ, ◌≡◌, ◌≤◌, ◌+◌, ◌-◌, ◌^◌, ◌++◌, min, true, List, [], ◌∷◌, length, take, Some, slice_get, count_by}
use Rattle.std.specs.List.{All}
use Rattle.replica.specs.Deeds.{IsNew}
use Rattle.replica.specs.Site.{IsSameSite, SiteState}
use Rattle.site_audit.specs.Runs.{IsFromNew}
use Rattle.site_journal.specs.declared.journaled.TheConstants.{MOST_STEPS}
use Rattle.site_journal.specs.declared.step.Step.{Step}
use Rattle.site_journal.specs.Journals.{HasAdded, IsFull, JournalState}
use Rattle.stored_steps.specs.declared.base.StoredBase.{StoredBase}
use Rattle.stored_steps.specs.Bases.{IsReadBase}
use Rattle.stored_steps.specs.RowsLead.{RowsLead}
use Rattle.stored_steps.specs.StartRows.{is_start}
use Rattle.stored_steps.specs.StepRows.{IsWithinLimits, row_of, rows_of}
use Rattle.stored_steps.specs.Stored.{Stored}
use Rattle.store_audit.specs.declared.store_journal.StoreJournal.{StoreJournal}
use Rattle.store_audit.specs.declared.walk.Walk.{Walk}
use Rattle.store_audit.specs.StoreRows.{is_base, rows_with_steps, step_positions, without_bases}

-- how often a site was started that was started `before` times before `rows`; at most 2^64 - 1
abbrev pub starts_with : ℕ → List Stored → ℕ
starts_with before rows = min (before + count_by is_start rows) (2 ^ 64 - 1)

-- A row is a base that says what the site is behind the rows `before` it, which began at `base`: its state, the name of its store and
-- the number of its starts.
pub record IsBaseThere (base : StoredBase) (before : List Stored) (row : Stored) : Type 0 where
  pub site : SiteState
  pub led : RowsLead base.replica (without_bases before) site
  pub read : StoredBase
  pub is_read : IsReadBase row read
  pub same : IsSameSite site read.replica
  pub name : read.name ≡ base.name
  pub starts : read.starts ≡ starts_with base.starts before

-- each base among rows says what the site is there
abbrev pub AreBasesThere : StoredBase → List Stored → Type 0
AreBasesThere base rows = (place : ℕ) (row : Stored) → slice_get rows place ≡ Some row → is_base row ≡ true → IsBaseThere base (take place rows) row

-- The rows behind a base were done again in a journal, which began from that base: it has a step for each row of a step, in their
-- order, and `positions` are the places of these rows in the store. Each further base says what the site is there.
pub record AreDoneAgain (base : StoredBase) (rows : List Stored) (journal : JournalState) (positions : List ℕ) : Type 0 where
  pub began : IsSameSite base.replica journal.base
  pub led : RowsLead base.replica (without_bases rows) journal.replica
  pub steps : rows_of journal.steps ≡ rows_with_steps rows
  pub each : length journal.steps ≡ length (rows_with_steps rows)
  pub within : All IsWithinLimits journal.steps
  pub places : positions ≡ step_positions 1 rows
  pub bases : AreBasesThere base rows

-- The journal of a site is what the rows of its store say: the first is the base of a new site, and the others were done again.
pub record IsJournalOfRows (rows : List Stored) (store : StoreJournal) : Type 0 where
  pub first : Stored
  pub rest : List Stored
  pub rows_are : rows ≡ first ∷ rest
  pub base : StoredBase
  pub base_is : IsReadBase first base
  pub fresh : IsFromNew store.journal
  pub done : AreDoneAgain base rest store.journal store.positions.items
  pub name : store.name ≡ base.name
  pub starts : store.starts ≡ starts_with base.starts rest

-- ---- a walk over the rows

-- a walk from a base has done the rows behind it again, so far
pub record HasWalked (base : StoredBase) (rows : List Stored) (walk : Walk) : Type 0 where
  pub fresh : IsFromNew walk.journal
  pub limit : walk.journal.limit ≡ MOST_STEPS
  pub count : walk.journal.count ≡ length walk.journal.steps
  pub few : length walk.journal.steps ≤ MOST_STEPS
  pub done : AreDoneAgain base rows walk.journal walk.positions.items
  pub name : walk.name ≡ base.name
  pub starts : walk.starts ≡ starts_with base.starts rows

-- a walk begins with the base of a new site in a row
pub record BeginsWalk (row : Stored) (walk : Walk) : Type 0 where
  pub base : StoredBase
  pub base_is : IsReadBase row base
  pub new : IsNew base.replica
  pub walked : HasWalked base [] walk

-- a base says what the site of a walk is, with the name of its store and as many starts
pub record SaysWalk (walk : Walk) (base : StoredBase) : Type 0 where
  pub same : IsSameSite walk.journal.replica base.replica
  pub name : base.name ≡ walk.name
  pub starts : base.starts ≡ walk.starts

-- a row is a base that says what the site of a walk is
pub record IsSaidBase (walk : Walk) (row : Stored) : Type 0 where
  pub read : StoredBase
  pub is_read : IsReadBase row read
  pub says : SaysWalk walk read

-- a walk has done one step more, that of the row of this position
pub record HasAddedStep (old : Walk) (position : ℕ) (row : Stored) (new : Walk) : Type 0 where
  pub step : Step
  pub row_is : row_of step ≡ Some row
  pub within : IsWithinLimits step
  pub room : IsFull old.journal → ⊥
  pub added : HasAdded old.journal step new.journal
  pub positions : new.positions.items ≡ old.positions.items ++ position ∷ []
  pub name : new.name ≡ old.name
  pub starts : new.starts ≡ old.starts
