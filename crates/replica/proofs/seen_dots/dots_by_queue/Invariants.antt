use Rattle.std.proofs.Common.{◌≡◌}
use Rattle.member_orset.specs.Members.{dot_view_of}
use Rattle.replica.specs.DotLists.{dots_below}
use Rattle.replica.proofs.seen_dots.dots_by_queue.Given as goal

-- the dots of the queues so far, and the interface that the next member has
abbrev pub invariant-loop-queue : goal.invariant-loop-queue
invariant-loop-queue l = record {
  dots : l.list.items ≡ dots_below (dot_view_of l.members) l.interface l.queue;
  interface : l.member.interface ≡ l.interface;
}
