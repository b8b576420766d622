use Rattle.std.proofs.Common.{ℕ, List, ⊎_elim, subst}
use Rattle.delta_codec.specs.Frames.{Spells}
use Rattle.site_journal.specs.Journals.{SpellNoFrame}
use Rattle.site_journal.proofs.Openings.{opened}
use Rattle.site_journal.proofs.decoded_frame.DecodedFrame.decode.Goals as goal

-- bytes that spell a frame have its opening
pub returns-in_default-clause-memory : goal.returns-in_default-clause-memory
returns-in_default-clause-memory c = λ _. opened c.in-Ok.frame _ (subst (Spells c.in-Ok.frame) c.as_slice.ensures c.in-Ok.ensures.value)

pub invariant_of-result : goal.invariant_of-result
invariant_of-result c = (subst (Spells c.in-Ok.frame) c.as_slice.ensures c.in-Ok.ensures.value, c.in-Ok-copy.ensures)

-- the fault is that of the bytes, which spell no frame
pub returns-in-Err-clause-no_frame : goal.returns-in-Err-clause-no_frame
returns-in-Err-clause-no_frame c = λ fault is.
    let reported = c.decode_fault.ensures.decode fault is in
    subst (λ (b : List ℕ). SpellNoFrame b) c.as_slice.ensures (⊎_elim (λ no_memory. absurd (reported.1 no_memory)) (λ alone. alone.1) c.in-Err.ensures.fault)
