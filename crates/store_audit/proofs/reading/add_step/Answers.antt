use Rattle.std.proofs.Common.{◌≡◌, Err, IfErr, rules, subst, sym}
use Rattle.store_audit.specs.RowCauses.{IsStepCause}
use Rattle.store_audit.proofs.Walking.{step_cause}
use Rattle.store_audit.proofs.reading.add_step.Goals as goal

-- the step isn't done again
pub returns-in_err-done-clause-fault : goal.returns-in_err-done-clause-fault
returns-in_err-done-clause-fault c =
    let same : c.from_residual-in_err-done.result ≡ Err c.in_err-done.field-0.0 = search rules in
    subst (λ r. IfErr r (λ fault. IsStepCause c.args.walk.now.journal c.args.position c.args.row.now fault)) (sym same)
    (step_cause c.args.walk.now.journal c.args.position c.args.row.now c.in_ok-step.step _ c.in_ok-step.ensures.row c.in_ok-step.ensures.within c.requires c.in_err-done.ensures.fault)
