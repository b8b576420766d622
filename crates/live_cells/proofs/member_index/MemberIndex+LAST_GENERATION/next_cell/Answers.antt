use Rattle.std.proofs.Common.{◌≡◌, ◌<◌, length, get_or, arith, ap, ◌∙◌}
use Rattle.std.specs.FinMap as map
use Rattle.std.specs.Option.{option_map}
use Rattle.live_cells.specs.Index.{listing}
use Rattle.live_cells.specs.PlacedStates.{listed_at}
use Rattle.live_cells.specs.RowWalks.{interface_before}
use Rattle.live_cells.proofs.ListedIds.{as_long, entry_there}
use Rattle.live_cells.proofs.CellsOfDots.{same_some}
use Rattle.live_cells.proofs.Shows.{least_none, least_beyond}
use Rattle.live_cells.proofs.member_index.MemberIndex+LAST_GENERATION.next_cell.Goals as goal

pub returns-then-place-members-clause-none : goal.returns-then-place-members-clause-none
returns-then-place-members-clause-none c none =
    let index = listed_at c.args.self.cells.now.held c.args.self.ids.now in
    least_none c.args.queue (interface_before c.args.queue index c.args.place) index c.args.place c.requires.before (omega (arith, c.if-place-members.true, as_long c.args.self.cells.now.held c.args.self.ids.now c.args.self.indexed.held))

pub returns-then-cell-queue-clause-none : goal.returns-then-cell-queue-clause-none
returns-then-cell-queue-clause-none c none =
    let held = c.args.self.cells.now.held in
    let ids = c.args.self.ids.now in
    let index = listed_at held ids in
    let reached = c.requires in
    let x = listing c.in_ok-cell.cell.now in
    let inside : c.args.place < length ids = omega (arith, c.if-place-members.false) in
    let is : x ≡ get_or index c.args.place x = same_some _ _ (ap (option_map listing) (c.in_ok-cell.ensures ∙ ap (map.get held) c.index-members-place.is) ∙ entry_there held ids c.args.self.indexed.held c.args.place c.index-members-place.result x inside) in
    least_beyond c.args.queue (interface_before c.args.queue index c.args.place) index c.args.place reached.before reached.rest c.args.self.indexed.index.rises x (omega (arith, inside, as_long held ids c.args.self.indexed.held)) is
    (λ e. absurd (omega (arith, e, c.if-cell-queue.true)))

pub returns-clause-some : goal.returns-clause-some
returns-clause-some c =
    let held = c.args.self.cells.now.held in
    let ids = c.args.self.ids.now in
    let index = listed_at held ids in
    let x = listing c.in_ok-cell.cell.now in
    let inside : c.args.place < length ids = omega (arith, c.if-place-members.false) in
    record {
      within = omega (arith, inside, as_long held ids c.args.self.indexed.held);
      here = same_some _ _ (ap (option_map listing) (c.in_ok-cell.ensures ∙ ap (map.get held) c.index-members-place.is) ∙ entry_there held ids c.args.self.indexed.held c.args.place c.index-members-place.result x inside);
      own = omega (arith, c.if-cell-queue.false);
    }
