use denote.Param.Send.{sendable}
use Rattle.site_files.proofs.Crossing.{database_send}
use Rattle.queue_sites.proofs.storing.serve.Goals as goal

-- a store in a file may cross threads
pub serve_site_files-requires-send-D : goal.serve_site_files-requires-send-D
serve_site_files-requires-send-D g c κs within = search (database_send, sendable) depth 20
