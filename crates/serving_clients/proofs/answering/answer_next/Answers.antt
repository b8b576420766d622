use Rattle.serve.proofs.Working.{no_work}
use Rattle.serving_clients.proofs.answering.answer_next.Goals as goal

-- no client was answered
pub returns-in_default : goal.returns-in_default
returns-in_default g c = no_work g.D.Desk.answers g.D.Desk.refuses c.args.desk.now
