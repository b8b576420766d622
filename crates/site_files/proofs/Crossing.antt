-- A store in a file may cross threads.
use denote.RattleType.{RattleType}
use denote.Struct.Declared.{shape}
use denote.Param.Send.{IsSend, sendable, recorded_send, struct_send}
use Rattle.std.proofs.Crossing.{crosses}
use Rattle.sqlite.below.sqlite_disk.specs.contracts.modelled.Modelled as Modelled
use Rattle.sqlite.below.sqlite_disk.specs.contracts.modelled.ModelledDisk.TheImpl as modelled_disk
use Rattle.sqlite.below.sqlite_disk.specs.contracts.start.UnknownStart.TheImpl as unknown_start
use Rattle.sqlite.below.sqlite_disk.proofs.modelled.Modelled.TheSendSync as modelled
use Rattle.sqlite.below.sqlite_std_file.specs.contracts.host.Host as Host
use Rattle.sqlite.below.sqlite_std_file.specs.contracts.host.HostCalls.TheImpl as host_calls
use Rattle.sqlite.below.sqlite_store.specs.contracts.store.FileStoreStore.TheImpl as file_store
use Rattle.sqlite.specs.contracts.FileStore as FileStore
use Rattle.sqlite.specs.contracts.Unknown as Unknown
use Rattle.sqlite.proofs.FileStore.TheSendSync as file
use Rattle.step_database.proofs.Crossing as rows
use Rattle.site_files.specs.contracts.site_database.SiteDatabase as SiteDatabase

-- the disk on which the file is
abbrev Disk : RattleType
Disk = Modelled.the_row Host.the_row Unknown.the_row host_calls.ghosts unknown_start.ghosts

disk_send : IsSend Disk
disk_send = modelled.the_send Host.the_row Unknown.the_row host_calls.ghosts unknown_start.ghosts (search (crosses, sendable) depth 60 fits 20000)

store_send : IsSend (FileStore.the_row Disk (modelled_disk.ghosts Host.the_row Unknown.the_row host_calls.ghosts modelled_disk.no_dict unknown_start.ghosts modelled_disk.no_dict modelled_disk.no_dict))
store_send = file.the_send Disk (modelled_disk.ghosts Host.the_row Unknown.the_row host_calls.ghosts modelled_disk.no_dict unknown_start.ghosts modelled_disk.no_dict modelled_disk.no_dict) disk_send

rows_send : IsSend (SiteDatabase.the_field).row
rows_send = struct_send (shape SiteDatabase.the_type) (rows.database_send (FileStore.the_row Disk (modelled_disk.ghosts Host.the_row Unknown.the_row host_calls.ghosts modelled_disk.no_dict unknown_start.ghosts modelled_disk.no_dict modelled_disk.no_dict)) (file_store.ghosts Disk (modelled_disk.ghosts Host.the_row Unknown.the_row host_calls.ghosts modelled_disk.no_dict unknown_start.ghosts modelled_disk.no_dict modelled_disk.no_dict) file_store.no_dict) store_send, tt)

pub database_send : IsSend SiteDatabase.the_row
database_send = recorded_send (SiteDatabase.the_field).row _ _ ((SiteDatabase.the_type).to_one) rows_send
