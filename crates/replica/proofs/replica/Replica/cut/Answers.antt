use Rattle.std.proofs.Common.{length, sym, ap, subst, refl, ◌∙◌, arith}
use Rattle.member_orset.specs.Members.{IsWithinLimits}
use Rattle.delta.specs.DeltaStates.{DeltaState, IsEmpty}
use Rattle.replica.specs.Keeping.{AreInQueues}
use Rattle.replica.proofs.FramedSites.{below_most, cut_exhausted, cut_means, in_ranges, nothing_means}
use Rattle.replica.proofs.Hearing.{failed}
use Rattle.replica.proofs.KeptSites.{cut_kept}
use Rattle.replica.proofs.replica.Replica.cut.Goals as goal

pub returns-then-is_empty-clause-meaning : goal.returns-then-is_empty-clause-meaning
returns-then-is_empty-clause-meaning c = λ s stands. nothing_means _ c.args.self.now s c.self.view_is stands (c.is_empty.ensures.0 c.if-is_empty.true)

pub returns-then-self-eq-MOST_COUNT-clause-meaning : goal.returns-then-self-eq-MOST_COUNT-clause-meaning
returns-then-self-eq-MOST_COUNT-clause-meaning c = λ s stands.
    cut_exhausted _ c.args.self.now s c.self.view_is stands (failed c.is_empty.result c.is_empty.ensures c.if-is_empty.false) c.if-self-eq-MOST_COUNT.true

pub invariant_of-self : goal.invariant_of-self
invariant_of-self c =
    record {
      kept = cut_kept _ c.replace-delta.new.dest _ c.self.invariant.kept (subst IsEmpty (sym c.replace-delta.ensures.after) c.empty.ensures.empty)
          (let few = below_most c.self.inside.frames c.self.invariant.kept.frames c.if-self-eq-MOST_COUNT.false in omega (arith, few));
      state_limits = c.self.invariant.state_limits;
      pending_limits = subst (λ (d : DeltaState). IsWithinLimits d.members) (sym c.replace-delta.ensures.after) c.empty.ensures.limits;
      queues = c.self.invariant.queues;
    }

pub returns-clause-meaning : goal.returns-clause-meaning
returns-clause-meaning c = λ s stands.
    cut_means _ c.args.self.now _ _ s c.self.view_is stands (failed c.is_empty.result c.is_empty.ensures c.if-is_empty.false)
    (below_most c.self.inside.frames c.self.invariant.kept.frames c.if-self-eq-MOST_COUNT.false)
    (record {
      heading = record { maker = refl; number = omega arith };
      delta = c.replace-delta.ensures.value;
      site = refl;
      names = refl;
      state = refl;
      pending = subst IsEmpty (sym c.replace-delta.ensures.after) c.empty.ensures.empty;
      none_retired = ap (λ d. d.members.retired) c.replace-delta.ensures.after ∙ c.empty.ensures.retired;
      last_count = refl;
      last_time = refl;
      frames = omega arith;
    })

pub returns-clause-in_ranges : goal.returns-clause-in_ranges
returns-clause-in_ranges c =
    let few = below_most c.self.inside.frames c.self.invariant.kept.frames c.if-self-eq-MOST_COUNT.false in
    in_ranges (length c.self.inside.list) _ (omega arith) (omega (arith, few)) c.self.invariant.queues.few
    (subst (AreInQueues (length c.self.inside.list)) (sym c.replace-delta.ensures.value) c.self.invariant.kept.pending_queues)
