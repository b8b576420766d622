use Rattle.serve.proofs.Working.{no_work}
use Rattle.serving_clients.proofs.answering.answer_one.Goals as goal

-- no client was answered
pub returns-in-Ok-None : goal.returns-in-Ok-None
returns-in-Ok-None g c = no_work g.D.Desk.answers g.D.Desk.refuses c.args.desk.now

pub returns-in-Err : goal.returns-in-Err
returns-in-Err g c = no_work g.D.Desk.answers g.D.Desk.refuses c.args.desk.now
