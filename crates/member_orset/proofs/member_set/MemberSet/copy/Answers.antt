use Rattle.std.proofs.Common.{sym, subst}
use Rattle.member_orset.specs.Members.{AreKept}
use Rattle.member_orset.proofs.KeptSets.{set_unspent}
use Rattle.live_cells.proofs.SpentIds.{none_retired}
use Rattle.member_orset.proofs.member_set.MemberSet.copy.Goals as goal

pub invariant_of-result : goal.invariant_of-result
invariant_of-result c =
    let kept = subst (λ (X : Type 0). X) (λ i. AreKept (sym c.in-Ok.ensures.ok i) (sym c.in_ok-cells.ensures.live i)) c.self.invariant.kept in
    set_unspent c.in-Ok.context.dots c.in_ok-cells.cells.live c.in_ok-cells.cells.spent kept c.in_ok-cells.ensures.spent

pub returns-clause-retired : goal.returns-clause-retired
returns-clause-retired c = none_retired _ c.in_ok-cells.cells.spent c.in_ok-cells.ensures.spent
