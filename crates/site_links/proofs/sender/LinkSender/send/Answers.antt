use Rattle.std.proofs.Common.{rules}
use Rattle.site_links.proofs.Relayed.{sends}
use Rattle.site_links.proofs.sender.LinkSender.send.Goals as goal

pub send_as-requires-clause-rule : goal.send_as-requires-clause-rule
send_as-requires-clause-rule g c = (sends _ _ _ _ (search rules) (search rules), search rules)
