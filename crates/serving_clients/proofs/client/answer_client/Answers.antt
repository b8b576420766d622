use Rattle.std.proofs.Common.{inr, subst}
use Rattle.serve.proofs.Working.{no_work}
use Rattle.serving_clients.proofs.ServedClients.{has_served}
use Rattle.serving_clients.specs.ServedClients.{HasServed}
use Rattle.serving_clients.proofs.client.answer_client.Goals as goal

-- a connection that can't be prepared leaves the desk as it is
pub returns-in-Err-clause-desk : goal.returns-in-Err-clause-desk
returns-in-Err-clause-desk g c = no_work g.D.Desk.answers g.D.Desk.refuses c.args.desk.now

pub returns-clause-session : goal.returns-clause-session
returns-clause-session g c =
    inr (subst (λ session. HasServed g.D.Desk.answers g.D.Desk.refuses session c.args.desk.now c.serve-served.new.desk) c.session-session.ensures
    (has_served _ _ _ _ _ _ _ _ _ _ _ c.serve-served.ensures.served c.serve-served.ensures.left))
