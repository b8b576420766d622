use Rattle.std.proofs.Common.{ap, ◌∙◌}
use Rattle.replica.proofs.Hearing.{failed, first_holds, member_test, second_reports, through, total_past, total_test}
use Rattle.replica.proofs.foreign.is_not_mine.Goals as goal

pub returns-then-has_member_past : goal.returns-then-has_member_past
returns-then-has_member_past c =
    let s = c.args.replica.now in
    let last = c.last-count.ensures in
    let member = member_test c.has_member_past.result _ _ _ s.site s.last_count s.last_time _ c.args.delta.now.members c.site-site.ensures last.count last.time c.members.ensures.value c.has_member_past.ensures in
    first_holds c.has_member_past.result (member.0 c.if-has_member_past.true) c.if-has_member_past.true

pub returns-else-has_member_past : goal.returns-else-has_member_past
returns-else-has_member_past c =
    let s = c.args.replica.now in
    let last = c.last-count.ensures in
    let member = member_test c.has_member_past.result _ _ _ s.site s.last_count s.last_time _ c.args.delta.now.members c.site-site.ensures last.count last.time c.members.ensures.value c.has_member_past.ensures in
    let own = ap (λ t. t.entries) (c.totals-else-has_member_past.ensures ∙ ap (λ d. d.totals) c.state.ensures.value) in
    let entries = ap (λ t. t.entries) c.totals.ensures in
    second_reports c.has_total_past.result (failed c.has_member_past.result member c.if-has_member_past.false)
    (total_test c.has_total_past.result _ s.site _ s.state.totals.entries _ c.args.delta.now.totals.entries c.site-site.ensures own entries
    (through c.has_total_past.ensures (total_past c.site-site.result c.totals-else-has_member_past.result.now.entries c.totals.result.now.entries)))
