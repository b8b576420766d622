use Rattle.std.proofs.Common.{◌≡◌, Err, IsOk, ap, inl, inr, subst, sym, true≢false}
use Rattle.delta.specs.Joining.{DeltasAgree, IsJoinOf, IsPrepared, IsRefusedJoin}
use Rattle.member_orset.specs.Members.{KeepsIds}
use Rattle.replica.specs.declared.take_fault.TakeFault.{TakeFault}
use Rattle.replica.specs.Site.{SiteState}
use Rattle.replica.specs.Steps.{take}
use Rattle.replica.specs.Taking.{IsMeantFault, IsRefusedTake, MayHear}
use Rattle.replica.proofs.KeptSites.{unchanged_kept}
use Rattle.replica.proofs.TakenSites.{agrees_before, fault_meant, may_take, prepared_agrees, refusals_joined, refusals_taken, refusals_unheard, take_meant, taken_kept, unchanged_self}
use Rattle.replica.proofs.TakingIn.{unchanged_ids, unchanged_joined}
use Rattle.replica.proofs.replica.Replica.take.Goals as goal

pub returns-in-Err-clause-refusals : goal.returns-in-Err-clause-refusals
returns-in-Err-clause-refusals c =
    refusals_unheard c.args.self.now c.args.frame.delta c.in-Err.fault c.in-Err.ensures.only c.in-Err.ensures.no_such_queue c.in-Err.ensures.not_mine

-- what may be heard isn't refused so
pub returns-in-Err-clause-prepared : goal.returns-in-Err-clause-prepared
returns-in-Err-clause-prepared c = λ hears ready. absurd (elim c.in-Err.ensures.only [
  | inl strange ↦ hears.queues (c.in-Err.ensures.no_such_queue.0 strange)
  | inr own ↦ hears.own (c.in-Err.ensures.not_mine.0 own).1
])

pub invariant_of-self : goal.invariant_of-self
invariant_of-self c = record {
  kept = unchanged_kept _ c.prepare.new.self c.self.inside.pending c.self.invariant.kept c.prepare.ensures.kept (unchanged_self c.self.inside.pending);
  state_limits = c.prepare.ensures.limits.0;
  pending_limits = c.self.invariant.pending_limits;
  queues = c.self.invariant.queues;
}

pub returns-in-Err-prepare-clause-refusals : goal.returns-in-Err-prepare-clause-refusals
returns-in-Err-prepare-clause-refusals c =
    let s = c.args.self.now in
    let d = c.args.frame.delta in
    let refused = subst (λ (r : SiteState). IsRefusedJoin r.state d (λ f. c.prepare.result ≡ Err f)) c.self.view_is c.prepare.ensures.refusals in
    subst (λ (t : TakeFault). IsRefusedTake s d (λ f. t ≡ f)) (sym c.take_fault_of.ensures)
    (refusals_joined s d c.in_default.ensures.heard c.prepare.result c.in-Err-prepare.fault c.in-Err-prepare.is refused)

-- a delta that was prepared isn't refused
pub returns-in-Err-prepare-clause-prepared : goal.returns-in-Err-prepare-clause-prepared
returns-in-Err-prepare-clause-prepared c = λ hears ready.
    let d = c.args.frame.delta in
    absurd (true≢false (sym (subst IsOk c.in-Err-prepare.is (c.prepare.ensures.again (subst (λ (r : SiteState). IsPrepared r.state d) (sym c.self.view_is) ready)))))

pub returns-in-Err-prepare-clause-meaning : goal.returns-in-Err-prepare-clause-meaning
returns-in-Err-prepare-clause-meaning c = λ s k stands says later.
    let old = c.args.self.now in
    let d = c.args.frame.delta in
    let refused = subst (λ (r : SiteState). IsRefusedJoin r.state d (λ f. c.prepare.result ≡ Err f)) c.self.view_is c.prepare.ensures.refusals in
    subst (λ (t : TakeFault). IsMeantFault t (take s k).1) (sym c.take_fault_of.ensures)
    (fault_meant old d s k stands says c.prepare.result refused c.in-Err-prepare.fault c.in-Err-prepare.is)

pub invariant_of-self-2 : goal.invariant_of-self-2
invariant_of-self-2 c =
    let d = c.args.frame.delta in
    let others = c.prepare.ensures.limits.1 in
    let kept = c.in_default-prepare.ensures.kept in
    let agree = agrees_before c.self.inside.state c.prepare.new.self d kept (prepared_agrees c.prepare.new.self d others c.in_default-prepare.ensures.ready) in
    record {
      kept = taken_kept _ d c.absorb.new.self c.self.invariant.kept (subst (λ (r : SiteState). MayHear r d) (sym c.self.view_is) c.in_default.ensures.heard) agree
          (unchanged_joined c.self.inside.state c.prepare.new.self d c.absorb.new.self kept c.absorb.ensures.joined);
      state_limits = c.absorb.ensures.limits;
      pending_limits = c.self.invariant.pending_limits;
      queues = c.self.invariant.queues;
    }

pub returns-clause-refusals : goal.returns-clause-refusals
returns-clause-refusals c =
    let s = c.args.self.now in
    let d = c.args.frame.delta in
    let refused = subst (λ (r : SiteState). IsRefusedJoin r.state d (λ f. c.prepare.result ≡ Err f)) c.self.view_is c.prepare.ensures.refusals in
    refusals_taken s d c.in_default.ensures.heard c.prepare.result c.in_default-prepare.field-0 c.in_default-prepare.is refused

pub returns-clause-may : goal.returns-clause-may
returns-clause-may c =
    let s = c.args.self.now in
    let d = c.args.frame.delta in
    let others = c.prepare.ensures.limits.1 in
    let kept = c.in_default-prepare.ensures.kept in
    let refused = subst (λ (r : SiteState). IsRefusedJoin r.state d (λ f. c.prepare.result ≡ Err f)) c.self.view_is c.prepare.ensures.refusals in
    let agree = agrees_before c.self.inside.state c.prepare.new.self d kept (prepared_agrees c.prepare.new.self d others c.in_default-prepare.ensures.ready) in
    may_take s d c.in_default.ensures.heard (subst (λ (r : SiteState). DeltasAgree r.state d) c.self.view_is agree) c.prepare.result c.in_default-prepare.field-0 c.in_default-prepare.is refused

pub returns-clause-meaning : goal.returns-clause-meaning
returns-clause-meaning c = λ s k stands says later.
    let old = c.args.self.now in
    let d = c.args.frame.delta in
    let others = c.prepare.ensures.limits.1 in
    let kept = c.in_default-prepare.ensures.kept in
    let refused = subst (λ (r : SiteState). IsRefusedJoin r.state d (λ f. c.prepare.result ≡ Err f)) c.self.view_is c.prepare.ensures.refusals in
    let agree = agrees_before c.self.inside.state c.prepare.new.self d kept (prepared_agrees c.prepare.new.self d others c.in_default-prepare.ensures.ready) in
    let agrees = subst (λ (r : SiteState). DeltasAgree r.state d) c.self.view_is agree in
    let may = may_take old d c.in_default.ensures.heard agrees c.prepare.result c.in_default-prepare.field-0 c.in_default-prepare.is refused in
    let joined = unchanged_joined c.self.inside.state c.prepare.new.self d c.absorb.new.self kept c.absorb.ensures.joined in
    let ids = unchanged_ids c.self.inside.state c.prepare.new.self c.absorb.new.self kept c.absorb.ensures.ids in
    take_meant old d s k stands says _ may
    (record {
      site = ap (λ r. r.site) c.self.view_is;
      names = ap (λ r. r.names) c.self.view_is;
      state = subst (λ (r : SiteState). IsJoinOf r.state d c.absorb.new.self) c.self.view_is joined;
      ids = subst (λ (r : SiteState). KeepsIds r.state.members c.absorb.new.self.members) c.self.view_is ids;
      pending = ap (λ r. r.pending) c.self.view_is;
      last_count = ap (λ r. r.last_count) c.self.view_is;
      last_time = ap (λ r. r.last_time) c.self.view_is;
      frames = ap (λ r. r.frames) c.self.view_is;
    }) later
