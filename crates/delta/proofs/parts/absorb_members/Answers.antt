use Rattle.std.proofs.Common.{sym}
use Rattle.delta.proofs.EmptySets.{joined_nothing, union_is}
use Rattle.delta.proofs.parts.absorb_members.Goals as goal

pub returns-then-knows_nothing-clause-joined : goal.returns-then-knows_nothing-clause-joined
returns-then-knows_nothing-clause-joined c =
    let nothing = c.knows_nothing.ensures.0 c.if-knows_nothing.true in
    record {
      known = sym (union_is c.args.other c.requires.others nothing c.args.members.now c.requires.limits);
      conditions = joined_nothing c.args.other c.requires.others nothing c.args.members.now c.requires.limits;
    }
