use Rattle.std.proofs.Common.{◌≡◌, ◌+◌, ◌*◌, ◌≤◌, length}
use Rattle.std.specs.FinMap as map
use Rattle.std.specs.List.{flat_map}
use Rattle.delta_codec.specs.Measures.{most_cell}
use Rattle.delta_codec.specs.Parts.{cell_bytes}
use Rattle.delta_codec.proofs.sizes.cells_size.Given as goal

-- what is counted, with what is still counted
abbrev pub invariant-loop-dot : goal.invariant-loop-dot
invariant-loop-dot l = record {
  value : l.size + length (flat_map cell_bytes l.dot-iterator) ≡ length (flat_map cell_bytes (map.entries l.members.live));
  limit : l.size + most_cell * length l.dot-iterator ≤ most_cell * length (map.entries l.members.live);
}
