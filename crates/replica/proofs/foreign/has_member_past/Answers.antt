use Rattle.std.proofs.Common.{◌↔◌, subst}
use Rattle.std.specs.Prelude.{IsTrue}
use Rattle.std.specs.FinSet as set
use Rattle.dots.specs.Orders.{dot_cmp}
use Rattle.replica.specs.Taking.{HasDotPast}
use Rattle.replica.proofs.Hearing.{failed, first_holds, second_reports, stamp_past, through}
use Rattle.replica.proofs.foreign.has_member_past.Goals as goal

pub returns-then-has_dot_past : goal.returns-then-has_dot_past
returns-then-has_dot_past c =
    let dot = subst (λ (k : set.FinSet dot_cmp). IsTrue c.has_dot_past.result ↔ HasDotPast c.args.site c.args.count k) c.context.ensures c.has_dot_past.ensures in
    first_holds c.has_dot_past.result (dot.0 c.if-has_dot_past.true) c.if-has_dot_past.true

pub returns-else-has_dot_past : goal.returns-else-has_dot_past
returns-else-has_dot_past c =
    let dot = subst (λ (k : set.FinSet dot_cmp). IsTrue c.has_dot_past.result ↔ HasDotPast c.args.site c.args.count k) c.context.ensures c.has_dot_past.ensures in
    second_reports c.has_stamp_past.result (failed c.has_dot_past.result dot c.if-has_dot_past.false)
    (through c.has_stamp_past.ensures (stamp_past c.args.site c.args.time c.args.members.now))
