use Rattle.std.proofs.Common.{rules}
use Rattle.stored_desk.specs.StoredPorts.{lent_pass}
use Rattle.stored_pass_desk.proofs.PortCalls.{stored_port_called}
use Rattle.server.proofs.stored_working.take_by.Goals as goal

-- the port has called by its pass alone
pub returns : goal.returns
returns g c = let kept = stored_port_called (λ p. lent_pass p) g.L.SiteLedger.base _ _ c.take_news.ensures.calls in search rules
