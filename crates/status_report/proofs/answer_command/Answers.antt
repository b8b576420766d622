use Rattle.std.proofs.Common.{Err}
use Rattle.status_report.proofs.AskLemmas.{by_meaning}
use Rattle.status_report.proofs.answer_command.Goals as goal

-- a refusal is answered as it is meant
pub returns-in-Err-clause-meaning : goal.returns-in-Err-clause-meaning
returns-in-Err-clause-meaning c = λ s stands. by_meaning c.args.replica.now c.command.new.self (Err c.in-Err.refusal) s _ (c.in-Err.ensures.knowledge s stands)
