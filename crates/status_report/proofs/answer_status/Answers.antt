use Rattle.std.proofs.Common.{◌∙◌, ap, inl, inr, refl}
use Rattle.replica.proofs.PlannedCommands.{itself}
use Rattle.status_report.specs.declared.asks.Answer.TheVariants.{Report}
use Rattle.status_report.proofs.AskLemmas.{report_is}
use Rattle.status_report.proofs.answer_status.Goals as goal

-- the report is the text of what the site knows
pub returns-in-Ok-clause-meaning : goal.returns-in-Ok-clause-meaning
returns-in-Ok-clause-meaning c = λ s stands. inl (stands, ap Report (c.in-Ok.ensures ∙ report_is c.args.replica.now s stands c.args.request.now))

-- the result may be out of memory instead
pub returns-in-Err-clause-meaning : goal.returns-in-Err-clause-meaning
returns-in-Err-clause-meaning c = λ s stands. inr (itself c.args.replica.now, refl)
