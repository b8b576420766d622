-- Which frame is answered, of bytes and of what a splitter holds.
use Rattle.std.proofs.Common.{◌≡◌, ℕ, List, drop, take, Option, Some, None, Result, Ok, Err, refl, sym, ap, ◌∙◌, inl, inr, ◌⊎◌}
use Rattle.delta_codec.specs.declared.decode_fault.DecodeFault.{DecodeFault}
use Rattle.delta_codec.specs.declared.decode_fault.DecodeFault.TheVariants.{Truncated, BadMagic, BadVersion, BadRange, BadOrder, BadText, TooLarge, Memory}
use Rattle.delta.specs.declared.frame.Frame.{Frame}
use Rattle.delta_codec.specs.Decoding.{IsFrontFrame, IsNextFrame, frame_kept}
use Rattle.delta_codec.specs.Reading.{Fails, GivesWithMemory, Kept, kept_in}
use Rattle.delta_codec.proofs.ContentLaws.{kept_of}
use Rattle.delta_codec.proofs.FrameLaws.{frame_found, frame_spelled, same_frame}
use Rattle.delta_codec.proofs.PartFaults.{not_both}
use Rattle.delta_codec.proofs.PartLaws.{IsBytes, ok_is}

-- ---- bytes

-- a result is out of memory, or the fault that reading gives
pub fails_is : {B : Type 0} (fault : DecodeFault) (read : Result B DecodeFault) → Fails fault read → (fault ≡ Memory) ⊎ (read ≡ Err fault)
fails_is Memory read h = inl refl
fails_is Truncated read h = inr h
fails_is BadMagic read h = inr h
fails_is BadVersion read h = inr h
fails_is BadRange read h = inr h
fails_is BadOrder read h = inr h
fails_is BadText read h = inr h
fails_is TooLarge read h = inr h

memory_only : {A B : Type 0} (fault : DecodeFault) (read : Result B DecodeFault) (y : B) → Fails fault read → read ≡ Ok y → ◌≡◌ {A = Result A DecodeFault} (Err fault) (Err Memory)
memory_only fault read y h e =
    elim (fails_is fault read h) [
      | inl memory ↦ ap (λ (d : DecodeFault). Err d) memory
      | inr reads ↦ absurd (not_both read y fault e reads)
    ]

abbrev pub seen : Frame × ℕ → Kept × ℕ
seen x = (frame_kept x.0, x.1)

pub front_frame : (bytes : List ℕ) (result : Result (Frame × ℕ) DecodeFault) → IsBytes bytes → GivesWithMemory seen result (kept_in bytes) → IsFrontFrame bytes result
front_frame bytes (Ok x) fits h =
    let f = frame_spelled bytes x.0 x.1 fits h in
    record {
      all_there = f.there;
      spelled = f.spells;
      found = λ frame n there s.
          let other : Kept × ℕ = (kept_of s.parts, n) in
          let same = ok_is (seen x) other (sym h ∙ frame_found bytes frame n there s) in
          inr (same_frame x.0 frame (take n bytes) s (ap (λ (k : Kept × ℕ). k.0) same), ap (λ (k : Kept × ℕ). k.1) same);
    }
front_frame bytes (Err fault) fits h = record {
  all_there = tt;
  spelled = tt;
  found = λ frame n there s. inl (memory_only fault (kept_in bytes) (kept_of s.parts, n) h (frame_found bytes frame n there s));
}

-- ---- what a splitter holds, by what decoding answers

pub next_found : (old new : List ℕ) (frame : Frame) (len : ℕ) → IsFrontFrame old (Ok (frame, len)) → new ≡ drop len old → IsNextFrame old (Ok (Some frame)) new
next_found old new frame len h left = record {
  leaves = record { len = len; there = h.all_there; spelled = h.spelled; left = left };
  found = λ other n there s. elim (h.found other n there s) [
    | inl memory ↦ absurd cc
    | inr same ↦ inr (same.0, left ∙ ap (λ (k : ℕ). drop k old) same.1)
  ];
}

pub none_found : (old : List ℕ) → IsFrontFrame old (Err Truncated) → IsNextFrame old (Ok None) old
none_found old h = record {
  leaves = refl;
  found = λ other n there s. elim (h.found other n there s) [
    | inl memory ↦ absurd cc
    | inr same ↦ absurd same
  ];
}

err_is : {A B : Type 0} (x y : DecodeFault) → ◌≡◌ {A = Result A DecodeFault} (Err x) (Err y) → ◌≡◌ {A = Result B DecodeFault} (Err x) (Err y)
err_is x y e = let same : x ≡ y = cc in ap (λ (f : DecodeFault). Err f) same

pub fault_found : (old : List ℕ) (fault : DecodeFault) → IsFrontFrame old (Err fault) → IsNextFrame old (Err fault) old
fault_found old fault h = record {
  leaves = refl;
  found = λ other n there s. elim (h.found other n there s) [
    | inl memory ↦ inl (err_is {A = Frame × ℕ} {B = Option Frame} fault Memory memory)
    | inr same ↦ absurd same
  ];
}
