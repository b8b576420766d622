-- Why the bytes of two files give no rows, by the database's error.
use Rattle.sqlite.specs.declared.error.Error.{Error}
use Rattle.sqlite.specs.declared.error.Error.TheVariants.{SqliteFailure}
use Rattle.sqlite.specs.declared.error.ErrorCode.TheVariants as codes
use Rattle.store_copy.specs.declared.copy_fault.CopyFault.{CopyFault}
use Rattle.store_copy.specs.declared.copy_fault.CopyFault.TheVariants.{Damaged, Database, Memory, NoStore}

-- the fault for an error of a read: a file in memory fails where it can't grow
abbrev pub read_fault : Error → CopyFault
read_fault (SqliteFailure codes.DatabaseCorrupt) = Damaged
read_fault (SqliteFailure codes.OutOfMemory) = Memory
read_fault (SqliteFailure codes.SystemIoFailure) = Memory
read_fault error = Database error

-- the fault for an error of an open
abbrev pub open_fault : Error → CopyFault
open_fault (SqliteFailure codes.NotADatabase) = NoStore
open_fault error = read_fault error
