use Rattle.std.proofs.Common.{◌≡◌, Result, Err, IsOk, refl, rules, sym, subst}
use Rattle.member_orset.specs.declared.join_fault.JoinFault.{JoinFault}
use Rattle.member_orset.specs.Members.{IsWithinLimits}
use Rattle.site_totals.specs.Tally.{HasRoomFor}
use Rattle.delta.specs.DeltaStates.{DeltaState}
use Rattle.delta.specs.Joining.{IsPrepared, IsRefusedJoin}
use Rattle.delta.proofs.Sameness.{unchanged_limits}
use Rattle.delta.proofs.delta.Delta.prepare.Goals.{in-Ok, in-Err}
use Rattle.delta.proofs.delta.Delta.prepare.Goals as goal

abbrev Answer : Type 0
Answer = Result (Unit {0}) JoinFault

-- the same deltas are refused for the same cause
moved : (d x e y : DeltaState) (r q : Answer) → d ≡ e → x ≡ y → r ≡ q → IsRefusedJoin d x (λ f. r ≡ Err f) → IsRefusedJoin e y (λ f. q ≡ Err f)
moved d x e y r q p s t h = subst (λ z. IsRefusedJoin e y (λ f. z ≡ Err f)) t (subst (λ z. IsRefusedJoin e z (λ f. r ≡ Err f)) s (subst (λ z. IsRefusedJoin z x (λ f. r ≡ Err f)) p h))

pub returns-in_err-prepare_members-clause-refusals :
    goal.returns-in_err-prepare_members-clause-refusals
returns-in_err-prepare_members-clause-refusals c =
    let same : c.prepare_members.result ≡ c.from_residual.result = search rules in
    moved (record { members = c.self.inside.members; totals = c.self.inside.totals }) (record { members = c.other.inside.members; totals = c.other.inside.totals }) c.args.self.now c.args.other.now
    c.prepare_members.result c.from_residual.result c.self.view_is c.other.view_is same c.prepare_members.ensures.refusals

pub returns-clause-again : goal.returns-clause-again
returns-clause-again c = λ (p : IsPrepared c.args.self.now c.args.other.now).
    let room = subst (λ d. HasRoomFor d.totals c.other.inside.totals.entries) (sym c.self.view_is) (subst (λ d. HasRoomFor c.args.self.now.totals d.totals.entries) (sym c.other.view_is) p.totals) in
    let done = c.prepare_totals.ensures.again room in
    elim c.match-prepare_totals.branch [
      | in-Ok w ↦ subst IsOk (sym w.result-is) refl
      | in-Err w ↦ absurd (let not_done = subst IsOk w.in-Err.is done in cc)
    ]

pub invariant_of-self : goal.invariant_of-self
invariant_of-self c = unchanged_limits _ _ c.prepare_members.ensures.kept c.self.invariant

pub returns-in_err-prepare_members-clause-limits : goal.returns-in_err-prepare_members-clause-limits
returns-in_err-prepare_members-clause-limits c = (unchanged_limits _ _ c.prepare_members.ensures.kept c.self.invariant, subst (λ d. IsWithinLimits d.members) c.other.view_is c.other.invariant)
