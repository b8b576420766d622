use Rattle.operations.proofs.VisibleLaws.{visible_is}
use Rattle.operations.proofs.laws.a_visible_dot_is_asserted_and_not_named.Goals as goal

pub returns : goal.returns
returns c = visible_is
