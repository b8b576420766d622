use Rattle.std.proofs.Common.{◌≡◌, length}
use Rattle.ami_text.specs.MessageFields.{trimmed_front}
use Rattle.ami_text.proofs.line.trimmed_front.Given as goal

abbrev pub invariant-loop-rest : goal.invariant-loop-rest
invariant-loop-rest l = trimmed_front l.rest ≡ trimmed_front l.bytes

abbrev pub decreases-loop-rest : goal.decreases-loop-rest
decreases-loop-rest l = length l.rest
