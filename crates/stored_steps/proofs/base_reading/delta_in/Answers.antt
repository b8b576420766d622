use Rattle.std.proofs.Common.{◌≡◌, ◌-◌, ◌⊎◌, inr, length, take, drop, Err, IfErr, rules, subst, sym, arith}
use Rattle.std.proofs.lemmas.List.{length-drop, take_all}
use Rattle.stored_steps.specs.declared.base_fault.BaseFault.TheVariants.{Memory}
use Rattle.stored_steps.specs.BaseFaults.{LacksDelta}
use Rattle.stored_steps.proofs.BaseCauses.{of_other, undecoded}
use Rattle.stored_steps.proofs.Reading.{delta_read}
use Rattle.stored_steps.proofs.base_reading.delta_in.Goals as goal

-- the bytes aren't decoded
pub returns-in-Err-clause-fault : goal.returns-in-Err-clause-fault
returns-in-Err-clause-fault c =
    undecoded c.args.site c.args.bytes.now c.decode.result c.in-Err.fault c.decode_fault.result c.decode.ensures.front c.decode.ensures.fault c.in-Err.is c.decode_fault.ensures.memory c.decode_fault.ensures.other

-- the frame is another
pub returns-in_err-delta-clause-fault : goal.returns-in_err-delta-clause-fault
returns-in_err-delta-clause-fault c =
    let same : c.from_residual.result ≡ Err c.in_err-delta.field-0.0 = search rules in
    subst (λ r. IfErr r (λ fault. (fault ≡ Memory) ⊎ LacksDelta c.args.site c.args.bytes.now fault)) (sym same)
    (inr (of_other c.args.site c.args.bytes.now c.decode.result c.in-Ok.decoded c.in_err-delta.field-0.0 c.decode.ensures.front c.in-Ok.is c.in_err-delta.ensures.fault))

pub returns-clause-delta : goal.returns-clause-delta
returns-clause-delta c =
    let n = c.in-Ok.decoded.1 in
    let bytes = c.args.bytes.now in
    delta_read c.args.site n c.in-Ok.decoded.0 c.in_ok-delta.delta bytes (take (length bytes - n) (drop n bytes)) c.in-Ok.ensures.front.spelled c.in_ok-delta.ensures.delta
    (take_all (length bytes - n) (drop n bytes) (omega (arith, length-drop n bytes)))
