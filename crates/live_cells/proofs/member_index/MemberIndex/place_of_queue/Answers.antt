use Rattle.std.proofs.Common.{rules, of_calls, arith, None}
use Rattle.std.proofs.lemmas.Fn.{always_returns_same}
use Rattle.live_cells.specs.PlacedStates.{listed_at}
use Rattle.live_cells.specs.ShownRows.{is_passed}
use Rattle.live_cells.proofs.ListedIds.{as_long, partitioned_ids, parts_entries, reported}
use Rattle.live_cells.proofs.RowWalks.{reached_first}
use Rattle.live_cells.proofs.Shows.{passed_first}
use Rattle.live_cells.proofs.member_index.MemberIndex.place_of_queue.Goals as goal

pub returns : goal.returns
returns g c =
    let held = c.args.self.cells.now.held in
    let ids = c.args.self.ids.now in
    let queue = c.args.queue in
    let parts = parts_entries held ids c.args.self.indexed.held (λ l. is_passed queue None l.member) c.partition_point.result c.partition_point.ensures.bound
    (c.partition_point.ensures.partitioned (reported held ids c.args.self.indexed.held (λ l. is_passed queue None l.member)) (always_returns_same _ _ _ (λ a r f k. search (rules, of_calls)))
    (partitioned_ids held ids c.args.self.indexed.held (λ l. is_passed queue None l.member) (passed_first queue None (listed_at held ids) c.args.self.indexed.index.rises))) in
    let long = as_long held ids c.args.self.indexed.held in
    let bound = c.partition_point.ensures.bound in
    let reached = reached_first queue (listed_at held ids) c.partition_point.result (omega arith) parts.0 parts.1 in
    record { reached = reached.0; first = reached.1 }
