use Rattle.std.proofs.Common.{◌≡◌, ◌++◌}
use Rattle.std.specs.List.{filter_map}
use Rattle.std.specs.Option.{option_copied}
use Rattle.ami_session.specs.FieldValues.{name_of}
use Rattle.script_lines.specs.ScriptLines.{parts_of}
use Rattle.script_lines.proofs.TriedParts.{length_left}
use Rattle.script_lines.proofs.parts.interfaces_of.Given as goal

-- what is gathered, and the interfaces among the parts that are left, are those among all parts
abbrev pub invariant-parts : goal.invariant-parts
invariant-parts l = l.tried.items ++ filter_map name_of (parts_of (option_copied l.left)) ≡ filter_map name_of (parts_of (option_copied l.fn.parts))

abbrev pub decreases-parts : goal.decreases-parts
decreases-parts l = length_left l.left
