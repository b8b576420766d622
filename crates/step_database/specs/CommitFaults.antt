-- Why a commit has failed, by the database's error.
use Rattle.sqlite.specs.declared.error.Error.{Error}
use Rattle.sqlite.specs.declared.error.Error.TheVariants.{SqliteFailure}
use Rattle.sqlite.specs.declared.error.ErrorCode.TheVariants.{Closed, DatabaseCorrupt, DiskFull, OutOfMemory, SystemIoFailure}
use Rattle.stored_desk.specs.declared.step_store.CommitFault.{CommitFault}
use Rattle.stored_desk.specs.declared.step_store.CommitFault.TheVariants.{Damaged, Device, Full, Memory, Other}

-- the fault for an error of the database
abbrev pub commit_fault : Error → CommitFault
commit_fault (SqliteFailure DiskFull) = Full
commit_fault (SqliteFailure SystemIoFailure) = Device
commit_fault (SqliteFailure DatabaseCorrupt) = Damaged
commit_fault (SqliteFailure Closed) = Device
commit_fault (SqliteFailure OutOfMemory) = Memory
commit_fault error = Other
