-- The rows of a store that the bytes of its files hold.
use Rattle.std.specs.Prelude.{◌≡◌, ◌⊎◌, ℕ, List}
use Rattle.sqlite.specs.Files.{AreFoundIn, HoldsDatabase}
use Rattle.sqlite.specs.Recovery.{Image}
use Rattle.sqlite.specs.Schema.{Schema}
use Rattle.sqlite.specs.Tree.{Trees}
use Rattle.sqlite_catalog.specs.Listing.{IsSound}
use Rattle.sqlite_disk.specs.Memory.{memory_bytes}
use Rattle.sqlite_disk.specs.declared.Files.{Files}
use Rattle.sqlite_disk.specs.declared.memory.Memory.{Memory}
use Rattle.stored_steps.specs.Stored.{Stored}
use Rattle.site_store.specs.Kept.{IsHistory}
use Rattle.site_store.specs.Steps.{Lists, kept_schema, step_schema}
use Rattle.store_copy.specs.declared.store_bytes.StoreBytes.{StoreBytes}

-- the bytes of a log and of a database file
abbrev pub image_of : StoreBytes → Image
image_of bytes = record { log = bytes.log.items; db = bytes.file.items }

-- the bytes of two files in memory
abbrev pub image_in : Files Memory → Image
image_in files = record { log = memory_bytes files.log; db = memory_bytes files.db }

-- the bytes of two files hold a database of this schema, which has these trees
pub record HoldsSchema (bytes : StoreBytes) (schema : Schema) (db : Trees) : Type 0 where
  pub held : HoldsDatabase (image_of bytes) db
  pub sound : IsSound schema db

-- rows are all those of a store: of both its tables if it keeps rows, else of the table of steps
abbrev pub AreAllRows : Schema → Trees → ℕ → List Stored → Type 0
AreAllRows schema db first rows = ((schema ≡ kept_schema) × IsHistory db first rows) ⊎ ((schema ≡ step_schema) × Lists (db 0) first rows)

-- two files recover to the trees of a store, and rows are all that these trees have
pub record AreRecovered (bytes : StoreBytes) (first : ℕ) (rows : List Stored) : Type 0 where
  pub schema : Schema
  pub db : Trees
  pub found : AreFoundIn (image_of bytes) db
  -- the files hold no other database
  pub only : (other : Trees) → HoldsDatabase (image_of bytes) other → db ≡ other
  pub sound : IsSound schema db
  pub rows_are : AreAllRows schema db first rows
