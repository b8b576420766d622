-- The site of the rows that a connection holds.
use Rattle.std.specs.Prelude.{◌≡◌, ℕ, ◌+◌, ◌-◌, ◌^◌, List, ⊤, IfErr, Result, drop, length, min, sum_by}
use Rattle.sqlite.specs.State.{HasCleanDisk, IsUnchanged, State}
use Rattle.stored_steps.specs.Restoring.{IsRestoredSite}
use Rattle.stored_steps.specs.Stored.{Stored}
use Rattle.site_store.specs.declared.open_fault.OpenFault.{OpenFault}
use Rattle.site_store.specs.declared.open_fault.OpenFault.TheVariants.{Blank, CannotOpen, Damaged, Database, Gap, InTransaction, InUse, Memory, NoStore, Site}
use Rattle.site_store.specs.declared.restoring.RestoredStore.{RestoredStore}
use Rattle.site_store.specs.Steps.{Holds, IsStoreSchema}

-- rows are refused: a position is missing, or they are no store of the site
abbrev pub IsOfRows : OpenFault → Type 0
IsOfRows InUse = ⊥
IsOfRows CannotOpen = ⊥
IsOfRows NoStore = ⊥
IsOfRows Damaged = ⊥
IsOfRows Blank = ⊥
IsOfRows Gap = ⊤
IsOfRows (Site fault) = ⊤
IsOfRows InTransaction = ⊥
IsOfRows (Database error) = ⊥
IsOfRows Memory = ⊥

-- a store stays as it is where its rows are refused
abbrev pub KeepsRefusedRows : {T : Type 0} → State → State → Result T OpenFault → Type 0
KeepsRefusedRows old new result =
    HasCleanDisk new → IsStoreSchema old.now.schema → IfErr result (λ fault. IsOfRows fault → IsUnchanged old new)

-- how many bytes the body of a row has
abbrev pub body_bytes : Stored → ℕ
body_bytes row = length row.bytes

-- these rows are counted, and the bytes of those behind the base
pub record CountsRows (rows : List Stored) (it : RestoredStore) : Type 0 where
  pub rows_are : it.rows ≡ length rows
  pub bytes_are : it.bytes ≡ min (sum_by body_bytes (drop 1 rows)) (2 ^ 64 - 1)

-- a connection holds the rows of which the site was restored, and `next` is the position of the next row
pub record IsRestoredAt (s : State) (it : RestoredStore) : Type 0 where
  pub first : ℕ
  pub rows : List Stored
  pub holds : Holds s first rows
  pub restored : IsRestoredSite rows it.site
  pub next_is : it.next ≡ first + length rows
  pub counts : CountsRows rows it
