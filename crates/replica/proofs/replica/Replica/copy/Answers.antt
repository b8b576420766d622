use Rattle.std.proofs.Common.{subst, sym}
use Rattle.replica.specs.Queues.{AreQueues}
use Rattle.replica.proofs.KeptSites.{copied_kept}
use Rattle.replica.proofs.replica.Replica.copy.Goals as goal

pub invariant_of-result : goal.invariant_of-result
invariant_of-result c =
    record {
      kept = copied_kept _ c.in_ok-list.list c.in_ok-state.state c.in-Ok.pending c.self.inside.frames c.self.invariant.kept c.in_ok-list.ensures c.in_ok-state.ensures.same c.in-Ok.ensures.same
          c.self.invariant.kept.frames;
      state_limits = c.in_ok-state.ensures.limits;
      pending_limits = c.in-Ok.ensures.limits;
      queues = subst AreQueues (sym c.in_ok-list.ensures) c.self.invariant.queues;
    }
