use Rattle.status_report.specs.Knowing.{answer_in}
use Rattle.status_report.proofs.KnowingLemmas.{one_step}
use Rattle.status_report.proofs.laws.an_ask_is_one_step_of_a_site.Goals as goal

pub returns : goal.returns
returns c = λ old new s asked answer. one_step old new s answer (answer_in old.site old.names s asked)
