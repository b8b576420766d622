use Rattle.std.proofs.Common.{◌↔◌, subst, ◌≤◌}
use Rattle.std.specs.Prelude.{IsTrue}
use Rattle.std.specs.FinMap as map
use Rattle.std.specs.List.{Any}
use Rattle.dots.specs.declared.call_totals.CallTotals.{CallTotals}
use Rattle.operations.specs.Totals.{Key}
use Rattle.dots.specs.Values.{Dot}
use Rattle.member_orset.specs.Members.{Holding, Members}
use Rattle.site_totals.specs.Tally.{Tally}
use Rattle.replica.proofs.Hearing.{failed, first_holds, second_reports, strange_member, strange_total, through}
use Rattle.replica.proofs.foreign.speaks_of_strange_queue.Goals as goal

pub returns-then-has_strange_member : goal.returns-then-has_strange_member
returns-then-has_strange_member c =
    let q = c.args.queues in
    let found = subst (λ (m : Members). IsTrue c.has_strange_member.result ↔ Any (λ (e : Dot × Holding). q ≤ e.1.0.queue) (map.entries m.live)) c.members.ensures.value c.has_strange_member.ensures in
    first_holds c.has_strange_member.result ((through found (strange_member q c.args.delta.now.members)).0 c.if-has_strange_member.true) c.if-has_strange_member.true

pub returns-else-has_strange_member : goal.returns-else-has_strange_member
returns-else-has_strange_member c =
    let q = c.args.queues in
    let found = subst (λ (m : Members). IsTrue c.has_strange_member.result ↔ Any (λ (e : Dot × Holding). q ≤ e.1.0.queue) (map.entries m.live)) c.members.ensures.value c.has_strange_member.ensures in
    let counted = subst (λ (t : Tally). IsTrue c.has_strange_total.result ↔ Any (λ (e : Key × CallTotals). q ≤ e.0.queue) (map.entries t.entries)) c.totals.ensures c.has_strange_total.ensures.test in
    second_reports c.has_strange_total.result (failed c.has_strange_member.result (through found (strange_member q c.args.delta.now.members)) c.if-has_strange_member.false)
    (through counted (strange_total q c.args.delta.now.totals.entries))
