use Rattle.std.proofs.Common.{◌≡◌, length}
use Rattle.ami_text.specs.MessageFields.{trimmed_end}
use Rattle.ami_text.proofs.line.trimmed_end.Given as goal

abbrev pub invariant-loop-rest : goal.invariant-loop-rest
invariant-loop-rest l = trimmed_end l.rest ≡ trimmed_end l.bytes

abbrev pub decreases-loop-rest : goal.decreases-loop-rest
decreases-loop-rest l = length l.rest
