use Rattle.std.proofs.Common.{◌≡◌, ap, sym, ◌∙◌, Some, true, false}
use Rattle.ami_text.specs.MessageFields.{same_name}
use Rattle.ami_text.proofs.FieldLemmas.{same_name_tested, first_value_found, first_value_passed}
use Rattle.ami_text.proofs.message.first_value.Goals as goal

pub returns-then-eq_ignore_ascii_case : goal.returns-then-eq_ignore_ascii_case
returns-then-eq_ignore_ascii_case c =
    let same : same_name c.field-item.result.0 c.args.name.now ≡ true =
    same_name_tested _ _ _ (rw c.name.ensures at c.eq_ignore_ascii_case.ensures.test) ∙ c.if-eq_ignore_ascii_case.true in
    ap Some c.value.ensures
    ∙ sym (c.loop-field.invariant ∙ first_value_found c.args.name.now c.args.fields.now c.loop-field.field-index c.field-item.result c.loop-field-test.true c.field-item.is same)

pub loop-field-preserved : goal.loop-field-preserved
loop-field-preserved c =
    let other : same_name c.field-item.result.0 c.args.name.now ≡ false =
    same_name_tested _ _ _ (rw c.name.ensures at c.eq_ignore_ascii_case.ensures.test) ∙ c.if-eq_ignore_ascii_case.false in
    c.loop-field.invariant ∙ first_value_passed c.args.name.now c.args.fields.now c.loop-field.field-index c.field-item.result c.loop-field-test.true c.field-item.is other
