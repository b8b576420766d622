use denote.Param.Send.{sendable}
use Rattle.site_files.proofs.Crossing.{database_send}
use Rattle.queue_sites.proofs.linking.serve_over_store.Goals as goal

-- a store in a file may cross threads
pub serve_linked_file-requires-send-D : goal.serve_linked_file-requires-send-D
serve_linked_file-requires-send-D g c κs within = search (database_send, sendable) depth 20
