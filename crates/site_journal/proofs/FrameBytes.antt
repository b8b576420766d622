-- Bytes that have a fault spell no frame.
use Rattle.std.proofs.Common.{◌≡◌, ◌⊎◌, ◌++◌, inl, inr, ℕ, List, length, take, drop, sym, ap, subst, arith}
use Rattle.std.proofs.lemmas.List.{length-drop, take-append-drop, take_all}
use Rattle.delta.specs.declared.frame.Frame.{Frame}
use Rattle.delta_codec.specs.Decoding.{AreBytes, BeginsWithFrame}
use Rattle.delta_codec.specs.Faults.{HasFault}
use Rattle.delta_codec.specs.Frames.{Spells}
use Rattle.delta_codec.specs.declared.decode_fault.DecodeFault.{DecodeFault}
use Rattle.delta_codec.specs.declared.decode_fault.DecodeFault.TheVariants.{Memory}
use Rattle.delta_codec.proofs.FaultLaws.{not_both_of}
use Rattle.delta_codec.proofs.FrameLaws.{no_prefix}
use Rattle.site_journal.specs.Journals.{HasFaultAlone, HasMore, SpellNoFrame}

-- a frame that bytes spell is the one at their front, and nothing is behind it
begins : (bytes : List ℕ) (frame : Frame) → Spells frame bytes → BeginsWithFrame bytes
begins bytes frame spelled = record {
  frame = frame;
  len = length bytes;
  there = omega arith;
  spelled = subst (λ (b : List ℕ). Spells frame b) (sym (take_all (length bytes) bytes (omega arith))) spelled;
}

-- what more bytes follow is no frame together with them
pub more_follow : (bytes : List ℕ) → HasMore bytes → SpellNoFrame bytes
more_follow bytes front frame spelled =
    let whole : Spells frame (take front.len bytes ++ drop front.len bytes) = subst (λ (b : List ℕ). Spells frame b) (sym (take-append-drop front.len bytes)) spelled in
    let none = no_prefix front.frame frame (take front.len bytes) (drop front.len bytes) front.spelled whole in
    let some = front.more in
    let size : length (drop front.len bytes) ≡ 0 = ap length none in
    omega (arith, length-drop front.len bytes)

-- bytes that have a fault, or whose decoding ran out of memory, have it as one frame, and then spell none
pub fault_alone : (bytes : List ℕ) (fault : DecodeFault) → AreBytes bytes → (fault ≡ Memory) ⊎ HasFault bytes fault → (fault ≡ Memory) ⊎ (HasFaultAlone bytes fault × SpellNoFrame bytes)
fault_alone bytes fault each (inl no_memory) = inl no_memory
fault_alone bytes fault each (inr has) = inr (inl has, λ frame spelled. not_both_of bytes each (begins bytes frame spelled) (record { fault = fault; has = has }))
