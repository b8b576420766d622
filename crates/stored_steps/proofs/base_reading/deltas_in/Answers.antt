use Rattle.std.proofs.Common.{◌≡◌, ◌⊎◌, ◌∙◌, inr, Err, IfErr, true≢false, rules, subst, sym}
use Rattle.stored_steps.specs.declared.base_fault.BaseFault.TheVariants.{Memory}
use Rattle.stored_steps.specs.BaseFaults.{LacksParts}
use Rattle.stored_steps.proofs.BaseCauses.{lacks_buffer, lacks_state, trails}
use Rattle.stored_steps.proofs.base_reading.deltas_in.Goals as goal

-- there is no state
pub returns-in_err-state-clause-fault : goal.returns-in_err-state-clause-fault
returns-in_err-state-clause-fault c =
    let same : c.from_residual.result ≡ Err c.in_err-state.field-0.0 = search rules in
    subst (λ r. IfErr r (λ fault. (fault ≡ Memory) ⊎ LacksParts c.args.site c.args.bytes.now fault)) (sym same)
    (lacks_state c.args.site c.args.bytes.now c.in_err-state.field-0.0 c.in_err-state.ensures.fault)

-- there is no buffer
pub returns-in-Err-clause-fault : goal.returns-in-Err-clause-fault
returns-in-Err-clause-fault c =
    lacks_buffer c.args.site c.in_ok-state.state c.args.bytes.now c.in_ok-state.rest.now c.in-Err.fault c.in_ok-state.ensures.delta c.in-Err.ensures.fault

-- bytes follow the buffer
pub returns-then-not-is_end-clause-fault : goal.returns-then-not-is_end-clause-fault
returns-then-not-is_end-clause-fault c =
    inr (trails c.args.site c.in_ok-state.state c.in-Ok.read.0 c.args.bytes.now c.in_ok-state.rest.now c.in-Ok.read.1.now c.in_ok-state.ensures.delta c.in-Ok.ensures.delta
    (λ none. true≢false (sym (c.is_end.ensures.1 none) ∙ c.if-not-is_end.true)))
