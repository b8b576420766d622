use Rattle.std.proofs.Common.{◌↔◌, subst}
use Rattle.std.specs.Prelude.{IsTrue}
use Rattle.member_orset.specs.Members.{Members}
use Rattle.replica.specs.Taking.{HasStampPast}
use Rattle.replica.proofs.Hearing.{stamp_past, through}
use Rattle.replica.proofs.RestoredSites.{stamps_test}
use Rattle.replica.proofs.restored.has_own_stamps.Goals as goal

pub returns : goal.returns
returns c =
    let b = c.has_stamp_past.result in
    stamps_test c.args.site c.args.last c.args.delta.now b
    (subst (λ (m : Members). IsTrue b ↔ HasStampPast c.args.site c.args.last m) c.members.ensures.value
    (through c.has_stamp_past.ensures (stamp_past c.args.site c.args.last c.members.result.now)))
