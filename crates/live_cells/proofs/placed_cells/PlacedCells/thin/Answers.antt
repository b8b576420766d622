use Rattle.std.proofs.Common.{◌≡◌, ◌+◌, ◌≤◌, length, lit<, min, ap, subst, arith}
use Rattle.std.specs.FinMap as map
use Rattle.std.proofs.lemmas.List.Sums.{count_by-le-length, length-filter}
use Rattle.live_cells.specs.declared.placed.Placed.{Placed}
use Rattle.live_cells.specs.Freed.{with_cells}
use Rattle.live_cells.specs.PlacedStates.{ArePlaced}
use Rattle.live_cells.proofs.placed_cells.PlacedCells.thin.Goals as goal

pub returns-clause-room : goal.returns-clause-room
returns-clause-room g c =
    let s = c.self.inside in
    let p = λ (q : Placed). map.contains_key c.free_cells.new.cells.held q.id in
    let room : min s.dots.room (length s.dots.items + s.cells.spare) ≡ c.args.self.now.room = ap (λ x. x.room) c.self.view_is in
    let dots : length s.dots.items ≡ length c.args.self.now.dots = ap (λ x. length x.dots) c.self.view_is in
    let kept : length c.keep_dots.new.dots.items ≤ length s.dots.items =
    omega (arith, ap length c.keep_dots.ensures.kept, length-filter p s.dots.items, count_by-le-length p s.dots.items) in
    omega (arith, room, dots, kept, c.keep_dots.ensures.room, c.free_cells.ensures.spare)

pub keep_dots-requires : goal.keep_dots-requires
keep_dots-requires g c = (lit< tt, subst (λ ds. ArePlaced (with_cells c.free_cells.new.cells.held ds) c.free_cells.new.cells.held c.free_cells.new.cells.spent) c.as_slice.ensures c.free_cells.ensures.freed.placed)
