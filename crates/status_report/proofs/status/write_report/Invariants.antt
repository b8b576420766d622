use Rattle.std.proofs.Common.{◌≡◌, ◌≤◌, ◌+◌, ◌++◌, length}
use Rattle.std.specs.List.{concat}
use Rattle.status_report.specs.Status.{opening}
use Rattle.status_report.proofs.BlockLemmas.{blocks_from}
use Rattle.status_report.proofs.status.write_report.Given as goal

-- what was written, and the blocks of the queues that are left, make the opening and the blocks of all
abbrev pub invariant-loop-number : goal.invariant-loop-number
invariant-loop-number g l = record {
  text : l.out.items ++ concat (blocks_from l.request (g.Q.Queues.totals l.queues) (g.Q.Queues.rows l.queues) (g.Q.Queues.names l.queues) l.number)
      ≡ opening l.request.action_id ++ concat (blocks_from l.request (g.Q.Queues.totals l.queues) (g.Q.Queues.rows l.queues) (g.Q.Queues.names l.queues) 0);
  count : l.events + length (blocks_from l.request (g.Q.Queues.totals l.queues) (g.Q.Queues.rows l.queues) (g.Q.Queues.names l.queues) l.number)
      ≡ length (blocks_from l.request (g.Q.Queues.totals l.queues) (g.Q.Queues.rows l.queues) (g.Q.Queues.names l.queues) 0);
  few : l.events ≤ length l.out.items;
}
