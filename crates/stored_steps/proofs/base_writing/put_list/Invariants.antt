use Rattle.std.proofs.Common.{◌≡◌, ◌++◌, take}
use Rattle.std.specs.List.{flat_map}
use Rattle.stored_steps.specs.Bases.{name_bytes}
use Rattle.stored_steps.proofs.base_writing.put_list.Given as goal

-- the names up to this place are written
abbrev pub invariant-loop-place : goal.invariant-loop-place
invariant-loop-place l = l.out.items ≡ l.initial.out.items ++ flat_map name_bytes (take l.place l.list)
