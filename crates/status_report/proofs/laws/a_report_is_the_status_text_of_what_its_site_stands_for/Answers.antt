use Rattle.status_report.proofs.AskLemmas.{report_is}
use Rattle.status_report.proofs.laws.a_report_is_the_status_text_of_what_its_site_stands_for.Goals as goal

pub returns : goal.returns
returns c = λ state s request stands. report_is state s stands request
