use Rattle.std.proofs.Common.{refl}
use Rattle.replica.proofs.KeptSites.{new_kept}
use Rattle.replica.proofs.StandingSites.{new_stands}
use Rattle.replica.proofs.replica.Replica.new.Goals as goal

-- src/replica.rt:67:5
pub invariant_of-result : goal.invariant_of-result
invariant_of-result c = record {
  kept = new_kept _ c.empty.ensures.empty c.empty-2.ensures.empty refl refl refl;
  state_limits = c.empty.ensures.limits;
  pending_limits = c.empty-2.ensures.limits;
  queues = c.len.ensures.queues;
}

-- src/replica.rt:67:5
pub returns-clause-meaning : goal.returns-clause-meaning
returns-clause-meaning c = new_stands _ c.empty.ensures.empty c.empty-2.ensures.empty refl refl refl
