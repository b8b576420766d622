use Rattle.std.proofs.Common.{Ok, sym, subst}
use Rattle.std.specs.Prelude.{OnOk}
use Rattle.member_orset.specs.Members.{IsWithinLimits}
use Rattle.delta.proofs.Sameness.{unchanged_limits}
use Rattle.replica.specs.Changing.{IsChangeOf}
use Rattle.replica.specs.Fitting.{BothTakeIn}
use Rattle.replica.proofs.Below.{below_agrees, new_agrees}
use Rattle.replica.proofs.KeptSites.{changed_kept, unchanged_kept}
use Rattle.replica.proofs.TakingIn.{refused_unchanged}
use Rattle.replica.proofs.replica.Replica.make.Goals as goal

-- src/replica.rt:186:15
pub join_both-requires-clause-state : goal.join_both-requires-clause-state
join_both-requires-clause-state c =
    let change = subst (λ s. IsChangeOf s c.args.count c.args.time c.args.change) (sym c.self.view_is) c.requires in new_agrees c.self.inside.state c.args.change change.is_new

-- src/replica.rt:186:15
pub join_both-requires-clause-pending : goal.join_both-requires-clause-pending
join_both-requires-clause-pending c =
    let change = subst (λ s. IsChangeOf s c.args.count c.args.time c.args.change) (sym c.self.view_is) c.requires in
    below_agrees c.self.inside.pending c.self.inside.state c.args.change c.self.invariant.kept.below change.is_new

-- src/replica.rt:190:17
pub invariant_of-self : goal.invariant_of-self
invariant_of-self c =
    let change = subst (λ s. IsChangeOf s c.args.count c.args.time c.args.change) (sym c.self.view_is) c.requires in
    let both : BothTakeIn c.self.inside.state c.self.inside.pending c.args.change c.join_both.new.state c.join_both.new.pending (Ok tt) =
    subst (BothTakeIn c.self.inside.state c.self.inside.pending c.args.change c.join_both.new.state c.join_both.new.pending) c.in-Ok.is c.join_both.ensures.both in
    let limits = subst (λ r. OnOk r (IsWithinLimits c.join_both.new.state.members × IsWithinLimits c.join_both.new.pending.members)) c.in-Ok.is c.join_both.ensures.limits in
    record {
      kept = changed_kept _ c.args.change c.join_both.new.state c.join_both.new.pending c.args.count c.args.time c.self.invariant.kept change both.0.joined both.1.joined;
      state_limits = limits.0;
      pending_limits = limits.1;
      queues = c.self.invariant.queues;
    }

-- src/replica.rt:192:29
pub invariant_of-self-in-Err : goal.invariant_of-self-in-Err
invariant_of-self-in-Err c =
    let both = refused_unchanged c.self.inside.state c.self.inside.pending c.args.change c.join_both.new.state c.join_both.new.pending c.in-Err.refusal
    (subst (BothTakeIn c.self.inside.state c.self.inside.pending c.args.change c.join_both.new.state c.join_both.new.pending) c.in-Err.is c.join_both.ensures.both) in
    record {
      kept = unchanged_kept _ c.join_both.new.state c.join_both.new.pending c.self.invariant.kept both.0 both.1;
      state_limits = unchanged_limits _ _ both.0.members c.self.invariant.state_limits;
      pending_limits = unchanged_limits _ _ both.1.members c.self.invariant.pending_limits;
      queues = c.self.invariant.queues;
    }
