use Rattle.std.proofs.Common.{rules}
use Rattle.site_links.proofs.Relayed.{gets}
use Rattle.site_links.proofs.receiver.LinkReceiver.recv.Goals as goal

pub recv_as-requires-clause-rule : goal.recv_as-requires-clause-rule
recv_as-requires-clause-rule g c = (gets _ _ (search rules), search rules)
