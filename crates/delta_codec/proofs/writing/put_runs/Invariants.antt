use Rattle.std.proofs.Common.{◌≡◌, ◌++◌, take}
use Rattle.std.specs.List.{flat_map}
use Rattle.delta_codec.specs.Parts.{run_bytes}
use Rattle.delta_codec.proofs.writing.put_runs.Given as goal

-- the runs before the index are written
abbrev pub invariant-loop-run : goal.invariant-loop-run
invariant-loop-run l = l.out.items ≡ l.initial.out.items ++ flat_map run_bytes (take l.run-index l.runs)
