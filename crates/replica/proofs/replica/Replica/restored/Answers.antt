use Rattle.std.proofs.Common.{refl}
use Rattle.replica.specs.Restoring.{parts_of}
use Rattle.replica.proofs.RestoredSites.{below_adds_nothing, restored_replica}
use Rattle.replica.proofs.replica.Replica.restored.Goals as goal

pub invariant_of-result : goal.invariant_of-result
invariant_of-result c =
    let parts = c.in_default.ensures in
    let joined = c.in-Ok.ensures in
    restored_replica (parts_of c.args.site c.args.list c.args.state c.args.pending c.args.last) c.join_buffer.new.state c.in-Ok.pending parts.sound joined.agree joined.joined joined.copy
    joined.limits joined.copy_limits parts.queues

pub returns-clause-same : goal.returns-clause-same
returns-clause-same c below =
    let parts = c.in_default.ensures in
    let joined = c.in-Ok.ensures in
    record {
      site = refl;
      names = refl;
      state = below_adds_nothing c.args.state c.args.pending c.join_buffer.new.state joined.agree joined.joined below parts.limits joined.limits parts.state parts.pending;
      pending = joined.copy;
      last_count = refl;
      last_time = refl;
      frames = refl;
    }
