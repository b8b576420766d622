use Rattle.member_orset.proofs.Agreeing.{sets_apart}
use Rattle.delta.proofs.laws.deltas_that_agree_are_not_in_conflict.Goals as goal

pub returns : goal.returns
returns c = λ x y. sets_apart x.members y.members
