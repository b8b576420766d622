use Rattle.std.proofs.Common.{◌≡◌, ◌≤◌, ◌++◌, length}
use Rattle.ami_text.specs.MessageFields.{fields_of}
use Rattle.ami_text.proofs.WholeLines.{whole_lines}
use Rattle.ami_text.proofs.message.Message.parse.Given as goal

abbrev pub invariant-lines : goal.invariant-lines
invariant-lines l = (length l.rest ≤ length l.bytes) × (fields_of (whole_lines l.bytes) ≡ l.fields.items ++ fields_of (whole_lines l.rest))

abbrev pub decreases-lines : goal.decreases-lines
decreases-lines l = length l.rest
