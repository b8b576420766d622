use Rattle.std.proofs.Common.{rules}
use Rattle.site_desk.specs.Ports.{lent_pass}
use Rattle.stored_pass_desk.proofs.PortCalls.{desk_port_called}
use Rattle.server.proofs.working.send_by.Goals as goal

-- the port has called by its pass alone
pub returns : goal.returns
returns g c = let kept = desk_port_called (λ p. lent_pass p) g.L.SiteLedger.site g.L.SiteLedger.names _ _ c.send_news.ensures in search rules
