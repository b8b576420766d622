use Rattle.serving_clients.proofs.AnsweringLemmas.{answered_more, answered_none}
use Rattle.serving_clients.proofs.answering.answer_clients.Goals as goal

-- no client yet
pub loop-init : goal.loop-init
loop-init g c = answered_none g.D.Desk.answers g.D.Desk.refuses c.args.desk.now

-- a client more
pub loop-preserved : goal.loop-preserved
loop-preserved g c = answered_more g.D.Desk.answers g.D.Desk.refuses _ _ _ c.loop.invariant c.answer_next.ensures
