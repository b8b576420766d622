use Rattle.std.proofs.Common.{◌≡◌, rules, ℕ, List, Result, Err, IfErr, refl, sym, subst, ◌∙◌}
use Rattle.site_journal.specs.declared.step.Step.{Step}
use Rattle.stored_steps.specs.declared.row_fault.RowFault.{RowFault}
use Rattle.stored_steps.specs.Kinds.{kind_number}
use Rattle.stored_steps.specs.RowReading.{IsDeedFault, IsStepFault}
use Rattle.stored_steps.proofs.ReadRows.{deed_fault}
use Rattle.stored_steps.proofs.step_rows.read_step.Goals as goal

pub returns-in_err-deed-clause-fault : goal.returns-in_err-deed-clause-fault
returns-in_err-deed-clause-fault c =
    let same : c.from_residual.result ≡ Err c.in_err-deed.field-0.0 = search rules in
    let number : c.args.row.now.kind ≡ kind_number c.in-Some.kind = sym c.kind.ensures ∙ (c.in-Some.ensures c.in-Some.kind).0 refl in
    let has = subst (λ (l : List ℕ). IsDeedFault c.in-Some.kind l c.in_err-deed.field-0.0) c.body.ensures c.in_err-deed.ensures.fault in
    subst (λ (r : Result Step RowFault). IfErr r (λ fault. IsStepFault fault c.args.row.now)) (sym same) (deed_fault c.args.row.now c.in-Some.kind c.in_err-deed.field-0.0 number has)
