use Rattle.member_orset.proofs.Asserting.{held_none}
use Rattle.member_orset.proofs.set_builder.SetBuilder.new.Goals as goal

pub invariant_of-result : goal.invariant_of-result
invariant_of-result c = held_none c.args.context.dots c.new.result.live c.new.ensures.live
