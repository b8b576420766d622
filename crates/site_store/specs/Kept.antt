-- The rows of a store that keeps those in whose place a base was put.
use Rattle.std.specs.Prelude.{◌≡◌, ◌⊎◌, ℕ, ◌+◌, ◌++◌, List, OnOk, Result, length, map}
use Rattle.std.specs.List.Sorted.{IsPermutation}
use Rattle.sqlite.specs.Order.{Row}
use Rattle.sqlite.specs.State.{HasCleanDisk, State}
use Rattle.sqlite.specs.Tree.{Trees}
use Rattle.stored_steps.specs.Stored.{Stored}
use Rattle.site_store.specs.Steps.{IsIdle, IsStoreSchema, Lists, kept_schema, shown}

-- trees list kept rows, and then the rows of the table of steps, at positions one after the other from `first` on
pub record ListsAll (trees : Trees) (first : ℕ) (kept list : List Stored) : Type 0 where
  pub kept_are : Lists (trees 1) first kept
  pub list_are : Lists (trees 0) (first + length kept) list

-- a database holds these kept rows and these steps in its two tables
pub record HoldsAll (s : State) (first : ℕ) (kept list : List Stored) : Type 0 where
  pub schema : s.now.schema ≡ kept_schema
  pub all : ListsAll s.now.trees first kept list

-- each outcome of a crash has these kept rows and these steps
abbrev pub LeavesAll : State → ℕ → List Stored → List Stored → Type 0
LeavesAll s first kept list = (db : Trees) → s.may_leave db → ListsAll db first kept list

-- a crash after a call leaves these kept rows and these steps, or what a crash before it did
abbrev pub CommitsAll : State → State → ℕ → List Stored → List Stored → Type 0
CommitsAll old new first kept list = (db : Trees) → new.may_leave db → old.may_leave db ⊎ ListsAll db first kept list

-- at Ok a store that keeps rows holds further steps from this position on, its next, and each outcome of a crash has them
abbrev pub AddsToAll : {T E : Type 0} → State → State → ℕ → List Stored → Result T E → Type 0
AddsToAll old new at more result =
    HasCleanDisk new → (first : ℕ) (kept list : List Stored) → HoldsAll old first kept list → at ≡ first + length kept + length list
    → OnOk result (HoldsAll new first kept (list ++ more) × LeavesAll new first kept (list ++ more))

-- a crash leaves a store that keeps rows with further steps from this position on, its next, or as a crash before did
abbrev pub CommitsToAll : State → State → ℕ → List Stored → Type 0
CommitsToAll old new at more =
    HasCleanDisk new → (first : ℕ) (kept list : List Stored) → HoldsAll old first kept list → at ≡ first + length kept + length list
    → CommitsAll old new first kept (list ++ more)

-- at Ok the table of kept rows lists the rows of both tables
abbrev pub KeepsAll : {T E : Type 0} → State → State → Result T E → Type 0
KeepsAll old new result = (first : ℕ) (kept list : List Stored) → ListsAll old.now.trees first kept list → OnOk result (Lists (new.now.trees 1) first (kept ++ list))

-- rows are those of both tables, first those of the table of kept rows, each table's in some order
pub record AreOfBoth (trees : Trees) (rows : List Row) : Type 0 where
  pub kept : List Row
  pub steps : List Row
  pub rows_are : rows ≡ kept ++ steps
  pub kept_are : IsPermutation (map shown (trees 1)) kept
  pub steps_are : IsPermutation (map shown (trees 0)) steps

-- rows are the kept rows that trees list from `first` on, and then those of the table of steps
pub record IsHistory (trees : Trees) (first : ℕ) (rows : List Stored) : Type 0 where
  pub kept : List Stored
  pub list : List Stored
  pub rows_are : rows ≡ kept ++ list
  pub all : ListsAll trees first kept list

-- a statement leaves the schema and the kept rows as they were
pub record SparesKept (old new : State) : Type 0 where
  pub schema : new.now.schema ≡ old.now.schema
  pub kept : new.now.trees 1 ≡ old.now.trees 1

-- at Ok a call has left the schema of a store and its kept rows as they were
abbrev pub SparesKeptAtOk : {T E : Type 0} → State → State → Result T E → Type 0
SparesKeptAtOk old new result = HasCleanDisk new → IsStoreSchema old.now.schema → OnOk result (SparesKept old new)

-- what a connection saw is committed, and nothing else is
pub record IsCommitted (old new : State) : Type 0 where
  pub now : new.now ≡ old.now
  pub leaves : (db : Trees) → new.may_leave db → db ≡ old.now.trees
  pub idle : IsIdle new
