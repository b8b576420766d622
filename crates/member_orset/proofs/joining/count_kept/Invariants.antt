-- Those that are left, and those of the runs so far, are all.
use Rattle.std.proofs.Common.{◌≡◌, ◌+◌, length, take}
use Rattle.std.specs.List.{count_by}
use Rattle.live_cells.proofs.RunCounts.{dead_in_runs}
use Rattle.member_orset.proofs.joining.count_kept.Given as goal

abbrev pub invariant-loop-run : goal.invariant-loop-run
invariant-loop-run l = record {
  live : l.live ≡ l.there.live;
  counted : l.left + count_by (λ p. dead_in_runs (take l.run-index l.runs) l.there.live p.dot) l.dots.list.now ≡ length l.dots.list.now;
}
