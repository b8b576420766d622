use Rattle.std.proofs.Common.{◌↔◌, inr, subst}
use Rattle.std.specs.Prelude.{IsTrue}
use Rattle.member_orset.specs.Members.{Members}
use Rattle.site_totals.specs.Tally.{Tally}
use Rattle.replica.specs.Taking.{HasStrangeMember, HasStrangeTotal}
use Rattle.replica.proofs.Hearing.{failed, strange_member, strange_total, through}
use Rattle.replica.proofs.RestoredSites.{not_strange, queues_test}
use Rattle.replica.proofs.restored.is_in_queues.Goals as goal

pub returns-then-not-has_strange_total-clause-test :
    goal.returns-then-not-has_strange_total-clause-test
returns-then-not-has_strange_total-clause-test c =
    let q = c.args.queues in
    let d = c.args.delta.now in
    let counted = subst (λ (t : Tally). IsTrue c.has_strange_total.result ↔ HasStrangeTotal q t.entries) c.totals.ensures
    (through c.has_strange_total.ensures.test (strange_total q c.totals.result.now.entries)) in
    let found = subst (λ (m : Members). IsTrue c.has_strange_member.result ↔ HasStrangeMember q m) c.members.ensures.value
    (through c.has_strange_member.ensures (strange_member q c.members.result.now)) in
    queues_test q d c.has_strange_member.result (failed c.has_strange_total.result counted c.if-not-has_strange_total.true) found

pub returns-else-not-has_strange_total-clause-test :
    goal.returns-else-not-has_strange_total-clause-test
returns-else-not-has_strange_total-clause-test c =
    let q = c.args.queues in
    let counted = subst (λ (t : Tally). IsTrue c.has_strange_total.result ↔ HasStrangeTotal q t.entries) c.totals.ensures
    (through c.has_strange_total.ensures.test (strange_total q c.totals.result.now.entries)) in
    let found = c.if-not-has_strange_total.false in
    (λ h. absurd cc, λ within. absurd (not_strange q c.args.delta.now within (inr (counted.0 found))))
