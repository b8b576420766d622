use Rattle.std.proofs.Common.{sym}
use Rattle.ami_text.proofs.ByteSearch.{field_of_none, field_of_parts}
use Rattle.ami_text.proofs.line.name_and_value.Goals as goal

pub returns-in_err-colon : goal.returns-in_err-colon
returns-in_err-colon c = rw c.from_residual.ensures (sym (field_of_none c.args.content.now c.in_err-colon.ensures))

pub returns : goal.returns
returns c =
    field_of_parts c.args.content.now c.in_ok-colon.colon c.trimmed.result.now c.trimmed-2.result.now c.in_ok-colon.ensures c.trimmed.ensures c.trimmed-2.ensures
