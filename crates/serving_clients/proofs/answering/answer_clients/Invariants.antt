use Rattle.serving_clients.specs.Answering.{HasAnsweredClients}
use Rattle.serving_clients.proofs.answering.answer_clients.Given as goal

abbrev pub invariant-loop : goal.invariant-loop
invariant-loop g l = HasAnsweredClients g.D.Desk.answers g.D.Desk.refuses l.initial.desk l.desk
