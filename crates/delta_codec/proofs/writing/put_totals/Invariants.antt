use Rattle.std.proofs.Common.{◌≡◌, ◌++◌}
use Rattle.std.specs.FinMap as map
use Rattle.std.specs.List.{flat_map}
use Rattle.delta_codec.specs.Parts.{total_bytes}
use Rattle.delta_codec.proofs.writing.put_totals.Given as goal

-- what is written, with what is still written
abbrev pub invariant-loop-key : goal.invariant-loop-key
invariant-loop-key l = l.out.items ++ flat_map total_bytes l.key-iterator ≡ l.initial.out.items ++ flat_map total_bytes (map.entries l.totals.entries)
