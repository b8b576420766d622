use Rattle.replica.proofs.MadeOperationLaws.{makes_what_it_may}
use Rattle.replica.proofs.laws.a_command_makes_what_its_site_may_make.Goals as goal

pub returns : goal.returns
returns c = makes_what_it_may
