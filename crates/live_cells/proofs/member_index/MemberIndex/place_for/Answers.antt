use Rattle.std.proofs.Common.{rules, of_calls}
use Rattle.std.proofs.lemmas.Fn.{always_returns_same}
use Rattle.std.specs.Ordering.{is_lt}
use Rattle.live_cells.specs.Index.{listed_cmp, listing}
use Rattle.live_cells.proofs.ListedIds.{before_first, place_for, reported}
use Rattle.live_cells.proofs.member_index.MemberIndex.place_for.Goals as goal

pub returns : goal.returns
returns g c =
    let held = c.args.self.cells.now.held in
    let ids = c.args.self.ids.now in
    let listed = c.args.self.indexed in
    let l = listing c.args.cell.now in
    let parts = c.partition_point.ensures.partitioned (reported held ids listed.held (λ x. is_lt (listed_cmp x l))) (always_returns_same _ _ _ (λ a r f k. search (rules, of_calls))) (before_first held ids listed.held l listed.index.rises) in
    place_for held ids listed.held l c.partition_point.result c.partition_point.ensures.bound parts.0 parts.1
