use Rattle.member_orset.proofs.Agreeing.{sets_apart}
use Rattle.member_orset.proofs.laws.sets_that_agree_are_not_in_conflict.Goals as goal

pub returns : goal.returns
returns c = sets_apart
