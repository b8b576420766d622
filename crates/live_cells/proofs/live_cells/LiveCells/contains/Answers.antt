use Rattle.std.proofs.Common.{subst, sym, ◌↔◌}
use Rattle.std.specs.Prelude.{IsTrue}
use Rattle.std.specs.FinMap as map
use Rattle.std.specs.List.{list_any}
use Rattle.dots.specs.Orders.{dot_cmp}
use Rattle.live_cells.specs.LiveLists.{live_of}
use Rattle.live_cells.specs.PlacedStates.{cells_of, listed_at}
use Rattle.live_cells.specs.ShownRows.{is_own}
use Rattle.live_cells.proofs.Presence.{presence}
use Rattle.live_cells.proofs.live_cells.LiveCells.contains.Goals as goal
use Rattle.live_cells.specs.Holdings.{Holding, IsPresentIn}

pub returns : goal.returns
returns g c =
    let s = c.index.result.cells.now in
    let listed = listed_at s.held c.index.result.ids.now in
    let m = c.args.member.now in
    subst (λ b. IsTrue b ↔ IsPresentIn c.args.self.now.live m) (sym c.has_member.ensures)
    (subst (λ (live : map.FinMap dot_cmp Holding). IsTrue (list_any (is_own m) listed) ↔ IsPresentIn live m) c.index.ensures
    (presence (live_of (cells_of s)) listed m c.index.result.indexed.index))
