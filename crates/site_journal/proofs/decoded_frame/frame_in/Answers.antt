use Rattle.std.proofs.Common.{◌≡◌, ◌⊎◌, rules, inr, refl, arith}
use Rattle.std.proofs.lemmas.List.{get_or_default}
use Rattle.delta_codec.specs.Decoding.{AreBytes}
use Rattle.delta_codec.specs.Faults.{HasFault}
use Rattle.delta_codec.specs.declared.decode_fault.DecodeFault.TheVariants.{Memory}
use Rattle.site_journal.specs.Journals.{HasFaultAlone, HasMore, SpellNoFrame}
use Rattle.site_journal.proofs.FrameBytes.{fault_alone, more_follow}
use Rattle.site_journal.proofs.decoded_frame.frame_in.Goals as goal

-- bytes that begin with no frame spell none
pub returns-in_err-frame-clause-fault : goal.returns-in_err-frame-clause-fault
returns-in_err-frame-clause-fault c =
    let bytes = c.args.bytes.now in
    let fault = c.in_err-frame.field-0.0 in
    let each : AreBytes bytes = λ k d low. let e = get_or_default bytes k d 0 low in omega (arith, c.type_inv.bytes k) in
    let had : (fault ≡ Memory) ⊎ HasFault bytes fault = search rules in
    let alone : (fault ≡ Memory) ⊎ (HasFaultAlone bytes fault × SpellNoFrame bytes) = fault_alone bytes fault each had in
    search rules

-- more follows the frame
pub returns-then-len-bytes-clause-fault : goal.returns-then-len-bytes-clause-fault
returns-then-len-bytes-clause-fault c =
    let more : HasMore c.args.bytes.now = record { frame = c.in_ok-frame.frame; len = c.in_ok-frame.len; spelled = c.in_ok-frame.ensures.front.spelled; more = search rules } in
    inr (inr (refl, more), more_follow c.args.bytes.now more)
