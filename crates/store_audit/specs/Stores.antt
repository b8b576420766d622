-- The stores of all sites, and their order.
use Rattle.std.specs.Prelude.{ℕ, ◌≡◌, ◌<◌, ◌+◌, List, length, map, Some, slice_get}
use Rattle.std.specs.List.Sorted.{IsNonDecreasingBy, IsPermutation}
use Rattle.site_audit.specs.Runs.{IsFromNew, names_in}
use Rattle.site_journal.specs.Journals.{JournalState}
use Rattle.store_audit.specs.declared.splitting.Parts.{Parts}
use Rattle.store_audit.specs.declared.store_audit_fault.StoreAuditFault.{StoreAuditFault}
use Rattle.store_audit.specs.declared.store_audit_fault.StoreAuditFault.TheVariants.{Doubled, Missing, OtherQueues, Write, Memory}
use Rattle.store_audit.specs.declared.store_journal.StoreJournal.{StoreJournal}

-- the number of the site of a store
abbrev pub site_number : StoreJournal → ℕ
site_number store = store.journal.base.site

-- the journals of stores
abbrev pub journals_of : List StoreJournal → List JournalState
journals_of stores = map (λ store. store.journal) stores

-- `sorted` are the stores in the order of their sites
pub record AreInOrder (stores sorted : List StoreJournal) : Type 0 where
  pub same : IsPermutation stores sorted
  pub rising : IsNonDecreasingBy site_number sorted

-- each store is of a greater site than the one before it
abbrev pub AreRising : List StoreJournal → Type 0
AreRising sorted = (place : ℕ) (one other : StoreJournal) → slice_get sorted place ≡ Some one → slice_get sorted (place + 1) ≡ Some other → site_number one < site_number other

-- each of the first `count` stores is of a greater site than the one before it
abbrev pub AreRisingTo : List StoreJournal → ℕ → Type 0
AreRisingTo sorted count = (place : ℕ) (one other : StoreJournal) → place + 1 < count → slice_get sorted place ≡ Some one → slice_get sorted (place + 1) ≡ Some other → site_number one < site_number other

-- each of the first `count` stores is of the site of its place
abbrev pub AreNumbered : List StoreJournal → ℕ → Type 0
AreNumbered sorted count = (place : ℕ) (store : StoreJournal) → place < count → slice_get sorted place ≡ Some store → site_number store ≡ place

-- each of the first `count` stores has the queues of the first
abbrev pub HasOneList : List StoreJournal → ℕ → Type 0
HasOneList sorted count = (place : ℕ) (store : StoreJournal) → place < count → slice_get sorted place ≡ Some store → store.journal.base.names ≡ names_in (journals_of sorted)

-- two neighbours are of this site, and all stores before them are of lesser sites, one of each
pub record AreTwice (sorted : List StoreJournal) (site : ℕ) : Type 0 where
  pub place : ℕ
  pub rising : AreRisingTo sorted (place + 1)
  pub one : StoreJournal
  pub other : StoreJournal
  pub one_is : slice_get sorted place ≡ Some one
  pub other_is : slice_get sorted (place + 1) ≡ Some other
  pub one_of : site_number one ≡ site
  pub other_of : site_number other ≡ site

-- each lesser site than this one has its store, and the next store is of a greater
pub record HasGap (sorted : List StoreJournal) (site : ℕ) : Type 0 where
  pub lesser : AreNumbered sorted site
  pub store : StoreJournal
  pub is : slice_get sorted site ≡ Some store
  pub greater : site < site_number store

-- the store of this site has other queues than the first, and each lesser site has those of the first
pub record HasOtherQueues (sorted : List StoreJournal) (site : ℕ) : Type 0 where
  pub store : StoreJournal
  pub is : slice_get sorted site ≡ Some store
  pub of : site_number store ≡ site
  pub other : store.journal.base.names ≡ names_in (journals_of sorted) → ⊥
  pub lesser : HasOneList sorted site

-- stores in the order of their sites aren't those of the sites 0, 1, .. with one list of queues, for this cause, the first that applies
abbrev pub IsOrderCause : List StoreJournal → StoreAuditFault → Type 0
IsOrderCause sorted (Doubled site) = AreTwice sorted site
IsOrderCause sorted (Missing site) = AreRising sorted × HasGap sorted site
IsOrderCause sorted (OtherQueues site) = AreNumbered sorted (length sorted) × HasOtherQueues sorted site
IsOrderCause sorted Write = ⊥
IsOrderCause sorted Memory = ⊥

-- ---- parts

-- journals have all steps of their sites, each as a journal of rows has them
abbrev pub AreFresh : List JournalState → Type 0
AreFresh journals = (site : ℕ) (j : JournalState) → slice_get journals site ≡ Some j → ∥ IsFromNew j ∥₁

-- the journals of stores, and the positions of their rows, in the order of the stores
pub record AreParts (stores : List StoreJournal) (parts : Parts) : Type 0 where
  pub journals : parts.journals.items ≡ journals_of stores
  pub positions : map (λ p. p.items) parts.positions.items ≡ map (λ store. store.positions.items) stores

-- each step of a journal has the position of its row
pub record AreCounted (parts : Parts) : Type 0 where
  pub each : length parts.positions.items ≡ length parts.journals.items
  pub many : (site : ℕ) (j : JournalState) (places : List ℕ) → slice_get parts.journals.items site ≡ Some j
      → slice_get (map (λ p. p.items) parts.positions.items) site ≡ Some places → length places ≡ length j.steps

-- the row of the step at `place` of a site's journal has this position
pub record IsRowAt (parts : Parts) (site place position : ℕ) : Type 0 where
  pub places : List ℕ
  pub is : slice_get (map (λ p. p.items) parts.positions.items) site ≡ Some places
  pub at : slice_get places place ≡ Some position

-- there is a step at `place` of a site's journal
pub record IsStepOf (parts : Parts) (site place : ℕ) : Type 0 where
  pub j : JournalState
  pub is : slice_get parts.journals.items site ≡ Some j
  pub less : place < length j.steps
