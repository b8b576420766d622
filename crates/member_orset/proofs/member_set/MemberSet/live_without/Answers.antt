use Rattle.std.proofs.Common.{sym, ap, ◌∙◌}
use Rattle.std.specs.FinMap as map
use Rattle.member_orset.specs.Members.{Members}
use Rattle.member_orset.proofs.JoinedSets.{counted_without}
use Rattle.member_orset.proofs.member_set.MemberSet.live_without.Goals as goal

pub returns : goal.returns
returns c =
    c.count_outside.ensures
    ∙ sym (counted_without c.args.self.now c.args.dead.now.dots c.placed.result.list.now c.placed.result.rise
    ((λ i q. c.placed.ensures.dots q i) ∙ ap (λ (t : Members). map.contains_key t.live) c.self.view_is))
