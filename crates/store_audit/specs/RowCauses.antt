-- Why the rows of a store give no journal.
use Rattle.std.specs.Prelude.{ℕ, ⊤, ◌≡◌, ◌≢◌, ◌≤◌, ◌<◌, ◌+◌, ◌⊎◌, true, false, List, [], ◌∷◌, length, take, Some, slice_get}
use Rattle.replica.specs.Deeds.{IsNew}
use Rattle.replica.specs.Site.{SiteState}
use Rattle.site_journal.specs.declared.journaled.TheConstants.{MOST_STEPS}
use Rattle.site_journal.specs.declared.step.Step.{Step}
use Rattle.site_journal.specs.Journals.{IsFull, JournalState}
use Rattle.site_journal.specs.Replaying.{CanCome}
use Rattle.stored_steps.specs.declared.base.StoredBase.{StoredBase}
use Rattle.stored_steps.specs.declared.base_fault.BaseFault.{BaseFault}
use Rattle.stored_steps.specs.declared.base_fault.BaseFault.TheVariants as base_fault
use Rattle.stored_steps.specs.BaseFaults.{IsAnyBaseCause}
use Rattle.stored_steps.specs.Bases.{IsReadBase}
use Rattle.stored_steps.specs.RowsLead.{RowLeads, RowsLead}
use Rattle.stored_steps.specs.StepRows.{HasRowFault, IsRowOfStep}
use Rattle.stored_steps.specs.Stored.{Stored}
use Rattle.store_audit.specs.declared.journal_fault.JournalFault.{JournalFault}
use Rattle.store_audit.specs.declared.journal_fault.JournalFault.TheVariants.{Base, NotFromStart, Row, Damaged, TooMany, Memory}
use Rattle.store_audit.specs.declared.walk.Walk.{Walk}
use Rattle.store_audit.specs.StoreRows.{is_base, is_step, rows_with_steps, without_bases}
use Rattle.store_audit.specs.Walks.{AreBasesThere, IsBaseThere, IsSaidBase}

-- ---- the first row

-- no base is read of a row for this cause
abbrev pub IsBaseCause : Stored → JournalFault → Type 0
IsBaseCause row (Base fault) = IsAnyBaseCause row fault
IsBaseCause row Memory = ⊤
IsBaseCause row other = ⊥

-- a row is the base of a site
pub record IsSomeBase (row : Stored) : Type 0 where
  pub base : StoredBase
  pub base_is : IsReadBase row base

-- a row is the base of a site that isn't new
pub record IsOfOldSite (row : Stored) : Type 0 where
  pub base : StoredBase
  pub base_is : IsReadBase row base
  pub old : IsNew base.replica → ⊥

-- no walk begins with the first row, which has the position `first`, for this cause
abbrev pub IsBeginCause : ℕ → Stored → JournalFault → Type 0
IsBeginCause first row (Base fault) = IsAnyBaseCause row fault
IsBeginCause first row NotFromStart = ((first ≢ 0) × IsSomeBase row) ⊎ IsOfOldSite row
IsBeginCause first row Memory = ⊤
IsBeginCause first row other = ⊥

-- ---- the further rows

-- a row is of a base that doesn't say what the site is behind the rows `before` it
pub record IsOtherBase (base : StoredBase) (before : List Stored) (row : Stored) : Type 0 where
  pub kind : is_base row ≡ true
  pub other : IsBaseThere base before row → ⊥

-- a row stands for a step, for which the rows `before` it leave room, and leads a site in state `site` nowhere
pub record LeadsNowhere (before : List Stored) (site : SiteState) (row : Stored) : Type 0 where
  pub kind : is_base row ≡ false
  pub stands : IsRowOfStep row
  pub room : length (rows_with_steps before) < MOST_STEPS
  pub nowhere : (to : SiteState) → RowLeads site row to → ⊥

-- the row of this position is refused for this cause, at a site in state `site` behind the rows `before` it, which began at `base`
abbrev pub IsRowCause : StoredBase → List Stored → SiteState → ℕ → Stored → JournalFault → Type 0
IsRowCause base before site position row (Row at fault) = (at ≡ position) × (is_step row ≡ true) × HasRowFault fault row
IsRowCause base before site position row (Damaged at) = (at ≡ position) × (IsOtherBase base before row ⊎ LeadsNowhere before site row)
IsRowCause base before site position row TooMany = (is_step row ≡ true) × IsRowOfStep row × (MOST_STEPS ≤ length (rows_with_steps before))
IsRowCause base before site position row Memory = ⊤
IsRowCause base before site position row other = ⊥

-- A walk over the rows behind a base ends with this fault: the rows before some row lead to the site that refuses it, each base among
-- them says what the site is there, and they have no more steps than a journal may have.
pub record StopsFor (base : StoredBase) (rows : List Stored) (fault : JournalFault) : Type 0 where
  pub place : ℕ
  pub row : Stored
  pub is : slice_get rows place ≡ Some row
  pub site : SiteState
  pub led : RowsLead base.replica (without_bases (take place rows)) site
  pub bases : AreBasesThere base (take place rows)
  pub few : length (rows_with_steps (take place rows)) ≤ MOST_STEPS
  pub cause : IsRowCause base (take place rows) site (place + 1) row fault

-- ---- all rows

-- rows begin with a row of which no base is read for this cause
pub record BeginsWithNoBase (rows : List Stored) (fault : BaseFault) : Type 0 where
  pub first : Stored
  pub rest : List Stored
  pub rows_are : rows ≡ first ∷ rest
  pub cause : IsAnyBaseCause first fault

-- there is no row, or no base is read of the first, for this cause
abbrev pub HasNoFirstBase : List Stored → BaseFault → Type 0
HasNoFirstBase rows fault = ((rows ≡ []) × (fault ≡ base_fault.NoBase)) ⊎ BeginsWithNoBase rows fault

-- rows begin with the base of a site
pub record BeginsWithBase (rows : List Stored) : Type 0 where
  pub first : Stored
  pub rest : List Stored
  pub rows_are : rows ≡ first ∷ rest
  pub some : IsSomeBase first

-- rows begin with the base of a site that isn't new
pub record BeginsOld (rows : List Stored) : Type 0 where
  pub first : Stored
  pub rest : List Stored
  pub rows_are : rows ≡ first ∷ rest
  pub old : IsOfOldSite first

-- rows begin at position 0 with the base of a new site, and one of those behind it has this fault, to which the steps before it lead
pub record StopsBehindBase (position : ℕ) (rows : List Stored) (fault : JournalFault) : Type 0 where
  pub start : position ≡ 0
  pub first : Stored
  pub rest : List Stored
  pub rows_are : rows ≡ first ∷ rest
  pub base : StoredBase
  pub base_is : IsReadBase first base
  pub new : IsNew base.replica
  pub stops : StopsFor base rest fault

-- rows, the first of which has the position `first`, give no journal for this cause
abbrev pub IsJournalCause : ℕ → List Stored → JournalFault → Type 0
IsJournalCause first rows (Base fault) = HasNoFirstBase rows fault
IsJournalCause first rows NotFromStart = ((first ≢ 0) × BeginsWithBase rows) ⊎ BeginsOld rows
IsJournalCause first rows Memory = ⊤
IsJournalCause first rows (Row position fault) = StopsBehindBase first rows (Row position fault)
IsJournalCause first rows (Damaged position) = StopsBehindBase first rows (Damaged position)
IsJournalCause first rows TooMany = StopsBehindBase first rows TooMany

-- ---- parts

-- a row behind the first, at this position, isn't a base that says what the site of a walk is, for this cause
abbrev pub IsKeptBaseCause : Walk → ℕ → Stored → JournalFault → Type 0
IsKeptBaseCause walk position row (Damaged at) = (at ≡ position) × (IsSaidBase walk row → ⊥)
IsKeptBaseCause walk position row Memory = ⊤
IsKeptBaseCause walk position row other = ⊥

-- no step is read of the row of this position for this cause
abbrev pub IsReadCause : ℕ → Stored → JournalFault → Type 0
IsReadCause position row (Row at fault) = (at ≡ position) × HasRowFault fault row
IsReadCause position row Memory = ⊤
IsReadCause position row other = ⊥

-- the step of the row of this position isn't done again for this cause
abbrev pub IsReplayCause : JournalState → ℕ → Step → JournalFault → Type 0
IsReplayCause journal position step (Damaged at) = (at ≡ position) × (IsFull journal → ⊥) × (CanCome journal step → ⊥)
IsReplayCause journal position step TooMany = IsFull journal
IsReplayCause journal position step Memory = ⊤
IsReplayCause journal position step other = ⊥

-- a row stands for a step that can't be next in a journal with room for it
pub record IsRefusedStep (journal : JournalState) (row : Stored) : Type 0 where
  pub stands : IsRowOfStep row
  pub room : IsFull journal → ⊥
  pub nowhere : (to : SiteState) → RowLeads journal.replica row to → ⊥

-- the row of this position adds no step for this cause
abbrev pub IsStepCause : JournalState → ℕ → Stored → JournalFault → Type 0
IsStepCause journal position row (Row at fault) = (at ≡ position) × HasRowFault fault row
IsStepCause journal position row (Damaged at) = (at ≡ position) × IsRefusedStep journal row
IsStepCause journal position row TooMany = IsRowOfStep row × IsFull journal
IsStepCause journal position row Memory = ⊤
IsStepCause journal position row other = ⊥
