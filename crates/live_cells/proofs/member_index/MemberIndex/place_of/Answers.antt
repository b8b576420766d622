use Rattle.std.proofs.Common.{rules, of_calls}
use Rattle.std.proofs.lemmas.Fn.{always_returns_same}
use Rattle.std.specs.Ordering.{is_lt}
use Rattle.dots.specs.Orders.{member_cmp}
use Rattle.live_cells.specs.PlacedStates.{listed_at}
use Rattle.live_cells.proofs.IndexPlaces.{lesser_first}
use Rattle.live_cells.proofs.ListedIds.{partitioned_ids, parts_entries, reported}
use Rattle.live_cells.proofs.member_index.MemberIndex.place_of.Goals as goal

pub returns-clause-first : goal.returns-clause-first
returns-clause-first g c =
    let held = c.args.self.cells.now.held in
    let ids = c.args.self.ids.now in
    let m = c.args.member.now in
    parts_entries held ids c.args.self.indexed.held (λ l. is_lt (member_cmp l.member m)) c.partition_point.result c.partition_point.ensures.bound
    (c.partition_point.ensures.partitioned (reported held ids c.args.self.indexed.held (λ l. is_lt (member_cmp l.member m))) (always_returns_same _ _ _ (λ a r f k. search (rules, of_calls)))
    (partitioned_ids held ids c.args.self.indexed.held (λ l. is_lt (member_cmp l.member m)) (lesser_first m (listed_at held ids) c.args.self.indexed.index.rises)))
