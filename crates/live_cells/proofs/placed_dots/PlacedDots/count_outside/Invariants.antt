-- Those that are left, and those of the runs so far, are all.
use Rattle.std.proofs.Common.{◌≡◌, ◌+◌, length, take}
use Rattle.std.specs.List.{count_by}
use Rattle.dots.specs.DotSets.{in_runs}
use Rattle.live_cells.proofs.placed_dots.PlacedDots.count_outside.Given as goal

abbrev pub invariant-loop-run : goal.invariant-loop-run
invariant-loop-run l = l.left + count_by (λ p. in_runs (take l.run-index l.runs) p.dot) l.self.list.now ≡ length l.self.list.now
