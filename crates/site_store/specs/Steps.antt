-- The table of steps, and what a connection holds.
use Rattle.std.specs.Prelude.{◌≡◌, ◌⊎◌, ℕ, ◌+◌, List, [], ◌∷◌, map, codes, Bool, true, false, pos, Some, IsTrue, OnOk, Result}
use Rattle.std.specs.List.Sorted.{IsPermutation}
use Rattle.sqlite.specs.Collation.TheVariants.{Binary}
use Rattle.sqlite.specs.declared.types.Value.TheVariants.{Null, Int, Blob as Bytes}
use Rattle.sqlite.specs.Order.{Row, column}
use Rattle.sqlite.specs.Table.{Table}
use Rattle.sqlite.specs.Schema.{Schema}
use Rattle.sqlite_schema.specs.declared.schema.Column.{Column}
use Rattle.sqlite.specs.Kind.{Kind}
use Rattle.sqlite.specs.Kind.TheVariants.{Integer, Blob, Text}
use Rattle.sqlite.specs.Tree.{Trees}
use Rattle.sqlite.specs.State.{HasCleanDisk, IsUnchanged, State}
use Rattle.stored_steps.specs.Stored.{Stored}

-- a column of the table: its name, its kind, and whether it is NOT NULL
abbrev pub step_column : List ℕ → Kind → Bool → Column
step_column name kind not_null = record { name = name; kind = kind; is_strict = true; not_null = not_null; default = Null; collation = Binary }

-- a table of rows: CREATE TABLE name (position INTEGER PRIMARY KEY, pass INTEGER NOT NULL, kind INTEGER NOT NULL, body BLOB NOT NULL, words TEXT NOT NULL) STRICT
abbrev pub row_table : List ℕ → ℕ → Table
row_table name tree = record {
  name = name;
  tree = tree;
  columns = step_column (codes "position") Integer false
      ∷ step_column (codes "pass") Integer true
      ∷ step_column (codes "kind") Integer true
      ∷ step_column (codes "body") Blob true
      ∷ step_column (codes "words") Text true ∷ [];
  key = Some 0;
  primary = 0 ∷ [];
  uniques = [];
  orders = [];
  checks = [];
  references = [];
  computed = [];
  stamps = record { places = []; terms = []; formats = [] };
  is_counted = false;
}

-- the table of steps: a base and the rows since
abbrev pub step_table : Table
step_table = row_table (codes "step") 0

-- the table of kept rows: those in whose place a base was put
abbrev pub kept_table : Table
kept_table = row_table (codes "kept") 1

-- a store has the one table
abbrev pub step_schema : Schema
step_schema = record { tables = step_table ∷ []; indexes = []; views = [] }

-- a store that keeps rows has both tables
abbrev pub kept_schema : Schema
kept_schema = record { tables = step_table ∷ kept_table ∷ []; indexes = []; views = [] }

-- a schema is that of a store, which keeps rows or not
abbrev pub IsStoreSchema : Schema → Type 0
IsStoreSchema schema = (schema ≡ step_schema) ⊎ (schema ≡ kept_schema)

abbrev pub no_schema : Schema
no_schema = record { tables = []; indexes = []; views = [] }

-- what is read of a row: its position, pass, kind and body
abbrev pub shown : Row → Row
shown r = column r 0 ∷ column r 2 ∷ column r 3 ∷ column r 4 ∷ []

-- the row that stands for a step at a position, as it is shown
abbrev pub step_row : ℕ → Stored → Row
step_row at s = Int (pos at) ∷ Int (pos s.pass) ∷ Int (pos s.kind) ∷ Bytes s.bytes ∷ []

-- the rows of steps at positions from `at` on
abbrev pub rows_from : ℕ → List Stored → List Row
rows_from at [] = []
rows_from at (s ∷ more) = step_row at s ∷ rows_from (at + 1) more

-- rows are those of these steps, the first of which has this position
abbrev pub Lists : List Row → ℕ → List Stored → Type 0
Lists rows at list = IsPermutation (map shown rows) (rows_from at list)

-- a database holds these steps in its table of steps
pub record Holds (s : State) (at : ℕ) (list : List Stored) : Type 0 where
  pub schema : IsStoreSchema s.now.schema
  pub rows : Lists (s.now.trees 0) at list

-- each outcome of a crash has these steps
abbrev pub LeavesOnly : State → ℕ → List Stored → Type 0
LeavesOnly s at list = (db : Trees) → s.may_leave db → Lists (db 0) at list

-- a crash after a call leaves only what a crash before it did
abbrev pub CommitsNothing : State → State → Type 0
CommitsNothing old new = (db : Trees) → new.may_leave db → old.may_leave db

-- a crash after a call leaves these steps, or what a crash before it did
abbrev pub CommitsSteps : State → State → ℕ → List Stored → Type 0
CommitsSteps old new at list = (db : Trees) → new.may_leave db → old.may_leave db ⊎ Lists (db 0) at list

-- a call only reads a database of such a schema: at Ok nothing has changed, and in any case it commits nothing
pub record OnlyReads {T E : Type 0} (HasSchema : Schema → Type 0) (old new : State) (result : Result T E) : Type 0 where
  pub same : HasCleanDisk new → HasSchema old.now.schema → OnOk result (IsUnchanged old new)
  pub crash : HasCleanDisk new → HasSchema old.now.schema → CommitsNothing old new
  pub clean : HasCleanDisk new → HasCleanDisk old

-- a statement was done within a transaction, which is still open
pub record IsInside (old new : State) : Type 0 where
  pub mode : IsTrue new.in_transaction
  pub is_open : IsTrue new.is_open
  pub committed : new.committed ≡ old.committed

-- a connection is open, outside a transaction, and what it sees is committed
pub record IsIdle (s : State) : Type 0 where
  pub is_open : IsTrue s.is_open
  pub outside : s.in_transaction ≡ false
  pub committed : s.committed ≡ s.now
