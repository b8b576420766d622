use Rattle.delta.proofs.EmptySets.{not_refused}
use Rattle.delta.proofs.parts.prepare_members.Goals as goal

pub returns-then-knows_nothing-clause-refusals : goal.returns-then-knows_nothing-clause-refusals
returns-then-knows_nothing-clause-refusals c =
    not_refused c.args.other.now c.requires.others (c.knows_nothing.ensures.0 c.if-knows_nothing.true) c.args.members.now c.requires.limits
