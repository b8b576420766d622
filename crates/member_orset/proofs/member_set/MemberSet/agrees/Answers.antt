use Rattle.std.proofs.Common.{ap, subst}
use Rattle.std.specs.FinMap as map
use Rattle.dots.specs.Orders.{dot_cmp}
use Rattle.member_orset.specs.Joining.{DecidesAgreement}
use Rattle.member_orset.proofs.Agreeing.{reported}
use Rattle.member_orset.proofs.member_set.MemberSet.agrees.Goals as goal
use Rattle.live_cells.specs.Holdings.{Holding}

pub returns-clause-agree : goal.returns-clause-agree
returns-clause-agree c =
    (reported c.args.self.now c.args.other.now c.cells_agree.result (subst (λ (m : map.FinMap dot_cmp Holding). DecidesAgreement m (map.entries c.args.other.now.live) c.cells_agree.result) (ap (λ s. s.live) c.self.view_is)
    (subst (λ (m : map.FinMap dot_cmp Holding). DecidesAgreement c.self.inside.cells.live (map.entries m) c.cells_agree.result) (ap (λ s. s.live) c.other.view_is) c.cells_agree.ensures))).0

pub returns-clause-conflict : goal.returns-clause-conflict
returns-clause-conflict c =
    (reported c.args.self.now c.args.other.now c.cells_agree.result (subst (λ (m : map.FinMap dot_cmp Holding). DecidesAgreement m (map.entries c.args.other.now.live) c.cells_agree.result) (ap (λ s. s.live) c.self.view_is)
    (subst (λ (m : map.FinMap dot_cmp Holding). DecidesAgreement c.self.inside.cells.live (map.entries m) c.cells_agree.result) (ap (λ s. s.live) c.other.view_is) c.cells_agree.ensures))).1
