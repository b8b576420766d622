-- Why a store was not opened, by what failed.
use Rattle.sqlite.specs.declared.error.Error.{Error}
use Rattle.sqlite.specs.declared.error.Error.TheVariants.{SqliteFailure}
use Rattle.sqlite.specs.declared.error.ErrorCode.TheVariants as codes
use Rattle.stored_steps.specs.declared.store_fault.StoreFault.{StoreFault}
use Rattle.stored_steps.specs.declared.store_fault.StoreFault.TheVariants as store_faults
use Rattle.site_store.specs.declared.open_fault.OpenFault.{OpenFault}
use Rattle.site_store.specs.declared.open_fault.OpenFault.TheVariants.{CannotOpen, Damaged, Database, InUse, Memory, NoStore, Site}

-- the fault for an error of the database
abbrev pub open_fault : Error → OpenFault
open_fault (SqliteFailure codes.DatabaseBusy) = InUse
open_fault (SqliteFailure codes.CannotOpen) = CannotOpen
open_fault (SqliteFailure codes.NotADatabase) = NoStore
open_fault (SqliteFailure codes.DatabaseCorrupt) = Damaged
open_fault (SqliteFailure codes.OutOfMemory) = Memory
open_fault error = Database error

-- the fault for rows that make no site
abbrev pub site_fault : StoreFault → OpenFault
site_fault store_faults.Memory = Memory
site_fault fault = Site fault
