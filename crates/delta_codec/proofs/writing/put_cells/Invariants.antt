use Rattle.std.proofs.Common.{◌≡◌, ◌++◌}
use Rattle.std.specs.FinMap as map
use Rattle.std.specs.List.{All, flat_map}
use Rattle.delta_codec.specs.Parts.{cell_bytes}
use Rattle.delta_codec.specs.Written.{IsWritten}
use Rattle.delta_codec.proofs.writing.put_cells.Given as goal

-- what is written, with what is still written; and what is left to see is all that is left to write
abbrev pub invariant-loop-dot : goal.invariant-loop-dot
invariant-loop-dot l = record {
  written : l.out.items ++ flat_map cell_bytes l.dot-iterator ≡ l.initial.out.items ++ flat_map cell_bytes (map.entries l.members.live);
  within : All IsWritten l.dot-iterator → All IsWritten (map.entries l.members.live);
}
