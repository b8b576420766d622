use Rattle.std.proofs.Common.{◌≡◌, ◌-◌}
use Rattle.op_arena.specs.CellRows.{values}
use Rattle.op_arena.proofs.Filled.{gone}
use Rattle.op_arena.proofs.chunk.drop_values.Given as goal

abbrev pub invariant-loop-index : goal.invariant-loop-index
invariant-loop-index g l = (l.places.first ≡ l.fn.places.first) × (l.places.slots ≡ gone l.index (values l.fn.places.slots) (l.capacity - l.len))
