use Rattle.std.proofs.Common.{◌≡◌, ◌≤◌, ◌*◌, take}
use Rattle.std.specs.List.{sum_by}
use Rattle.store_listing.proofs.RunLengths.{run_length}
use Rattle.store_listing.proofs.frames.count_dots.Given as goal

-- the dots of the runs up to this one are counted, at most 2^40 of each
abbrev pub invariant-loop-run : goal.invariant-loop-run
invariant-loop-run l = record {
  counted : l.dots ≡ sum_by run_length (take l.run-index l.runs);
  few : l.dots ≤ l.run-index * 1099511627776;
}
