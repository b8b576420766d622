use Rattle.std.proofs.Common.{◌∙◌}
use Rattle.status_report.proofs.AskLemmas.{of_ok, report_is}
use Rattle.status_report.proofs.status.report.Goals as goal

-- the report is the text of what the site knows
pub returns-clause-meaning : goal.returns-clause-meaning
returns-clause-meaning c = of_ok _ _ c.write_report.result c.write_report.ensures (λ out is s stands. is ∙ report_is c.args.replica.now s stands c.args.request.now)
