use Rattle.std.proofs.Common.{rules}
use Rattle.site_links.proofs.Relayed.{sends}
use Rattle.site_links.proofs.sender.LinkSender.offer.Goals as goal

pub try_send_as-requires-clause-rule : goal.try_send_as-requires-clause-rule
try_send_as-requires-clause-rule g c = (sends _ _ _ _ (search rules) (search rules), search rules)
