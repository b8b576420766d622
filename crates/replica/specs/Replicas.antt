-- The invariant of every replica, beyond what its contracts state: its parts are within their limits.
use Rattle.member_orset.specs.Members.{IsWithinLimits}
use Rattle.replica.specs.Keeping.{IsKept}
use Rattle.replica.specs.Queues.{AreQueues}
use Rattle.replica.specs.Site.{SiteState}

-- a replica keeps what its contracts state, what it knows and its buffer are within the limits of sets, and its names are a list
-- of queues
pub record IsReplica (s : SiteState) : Type 0 where
  pub kept : IsKept s
  pub state_limits : IsWithinLimits s.state.members
  pub pending_limits : IsWithinLimits s.pending.members
  pub queues : AreQueues s.names
