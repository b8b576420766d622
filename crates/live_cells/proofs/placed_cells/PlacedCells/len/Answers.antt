use Rattle.std.proofs.Common.{◌+◌, ◌*◌, ◌≤◌, subst}
use Rattle.std.specs.FinSet as set
use Rattle.live_cells.proofs.placed_cells.PlacedCells.len.Goals as goal

pub returns-clause-worn : goal.returns-clause-worn
returns-clause-worn g c = rw (← c.self.view_is) (subst (λ n. n * (g.row.LAST + 1) ≤ set.len c.self.inside.cells.spent) c.retired.ensures.value c.retired.ensures.worn)
