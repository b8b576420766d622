use Rattle.std.proofs.Common.{◌≡◌, ◌++◌, length}
use Rattle.std.specs.List.{flat_map}
use Rattle.stored_steps.specs.Bases.{name_bytes}
use Rattle.stored_steps.proofs.base_reading.names_of.Given as goal

-- as many names are read as there were rounds, and the other bytes are left
abbrev pub invariant-loop-place : goal.invariant-loop-place
invariant-loop-place l = record {
  count : length l.names.items ≡ l._place;
  spelled : l.bytes ≡ flat_map name_bytes l.names.items ++ l.left;
}
