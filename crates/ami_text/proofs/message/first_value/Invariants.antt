use Rattle.std.proofs.Common.{◌≡◌, drop}
use Rattle.ami_text.specs.MessageFields.{first_value}
use Rattle.ami_text.proofs.message.first_value.Given as goal

abbrev pub invariant-loop-field : goal.invariant-loop-field
invariant-loop-field l = first_value l.name l.fields ≡ first_value l.name (drop l.field-index l.fields)
