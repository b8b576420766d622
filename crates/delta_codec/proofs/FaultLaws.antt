-- Bytes begin with a frame, or have one fault.
use Rattle.std.proofs.Common.{◌≡◌, ◌≢◌, ◌⊎◌, ℕ, ◌≤◌, List, ◌++◌, length, take, sym, ap, subst, ◌∙◌, append_assoc, inl, inr, arith}
use Rattle.std.specs.FinMap as map
use Rattle.std.specs.FinSet as set
use Rattle.std.proofs.lemmas.Bool.{cases_lt}
use Rattle.std.proofs.lemmas.List.{get_or_past, length-append, take-append-le}
use Rattle.delta_codec.specs.declared.decode_fault.DecodeFault.{DecodeFault}
use Rattle.delta_codec.specs.declared.decode_fault.DecodeFault.TheVariants.{Truncated}
use Rattle.delta.specs.declared.frame.Frame.{Frame}
use Rattle.delta.specs.Frames.{IsSameFrame}
use Rattle.delta_codec.specs.Decoding.{AreBytes, BeginsWithFrame, IsAtFault}
use Rattle.delta_codec.specs.Faults.{HasFault, number4}
use Rattle.delta_codec.specs.Frames.{Spells}
use Rattle.delta_codec.specs.Reading.{Kept, kept_in}
use Rattle.delta_codec.proofs.ContentLaws.{kept_of}
use Rattle.delta_codec.proofs.FrameFaults.{frame_reports}
use Rattle.delta_codec.proofs.FrameLaws.{both_found, frame_found, frame_spelled, one_frame}
use Rattle.delta_codec.proofs.PartFaults.{fault_is, not_both, outcome}
use Rattle.delta_codec.proofs.PartLaws.{IsBytes}

-- each of them is a byte, also of those past the end
all_bytes : (bytes : List ℕ) → AreBytes bytes → IsBytes bytes
all_bytes bytes all i =
    elim (cases_lt i (length bytes)) [
      | inl lt ↦ all i 0 lt
      | inr past ↦ rw (get_or_past bytes i 0 past) (omega arith)
    ]

-- a frame that keeps this, with no room to spare
abbrev frame_of : Kept → Frame
frame_of kept = record {
  maker = kept.0.maker;
  number = kept.0.number;
  delta = record {
    members = record { known = kept.1.0; live = kept.1.1.0; ids = map.empty; spent = set.empty; retired = 0; cell_room = 0; run_room = 0 };
    totals = record { entries = kept.1.1.1; room = 0 };
  };
}

pub either : (bytes : List ℕ) → AreBytes bytes → BeginsWithFrame bytes ⊎ IsAtFault bytes
either bytes all =
    let fits = all_bytes bytes all in
    elim (outcome (kept_in bytes)) [
      | inl found ↦
          let front = frame_spelled bytes (frame_of found.0.0) found.0.1 fits found.1 in
          inl (record { frame = frame_of found.0.0; len = found.0.1; there = front.there; spelled = front.spells })
      | inr stopped ↦ inr (record { fault = stopped.0; has = frame_reports.only bytes stopped.0 fits stopped.1 })
    ]

pub not_both_of : (bytes : List ℕ) → AreBytes bytes → BeginsWithFrame bytes → IsAtFault bytes → ⊥
not_both_of bytes all begins at_fault =
    let found : Kept × ℕ = (kept_of begins.spelled.parts, begins.len) in
    not_both (kept_in bytes) found at_fault.fault (frame_found bytes begins.frame begins.len begins.there begins.spelled) (frame_reports.always bytes at_fault.fault (all_bytes bytes all) at_fault.has)

pub one_fault : (bytes : List ℕ) (f g : DecodeFault) → AreBytes bytes → HasFault bytes f → HasFault bytes g → f ≡ g
one_fault bytes f g all has also =
    let fits = all_bytes bytes all in
    fault_is {A = Kept × ℕ} f g (sym (frame_reports.always bytes f fits has) ∙ frame_reports.always bytes g fits also)

-- ---- what follows bytes

pub frame_stays : (bytes more : List ℕ) (frame : Frame) (n : ℕ) → n ≤ length bytes → Spells frame (take n bytes) → Spells frame (take n (bytes ++ more))
frame_stays bytes more frame n there spelled = subst (λ (x : List ℕ). Spells frame x) (sym (take-append-le n bytes more there)) spelled

-- a frame at the front of bytes is the only one that all of the bytes begin with
pub front_same : (bytes more : List ℕ) (x y : Frame) (m n : ℕ) → m ≤ length bytes → n ≤ length (bytes ++ more) → Spells x (take m bytes) → Spells y (take n (bytes ++ more))
    → (m ≡ n) × IsSameFrame x y
front_same bytes more x y m n here there s t =
    let all = bytes ++ more in
    let s' : Spells x (take m all) = frame_stays bytes more x m here s in
    let within : m ≤ length all = omega (arith, length-append bytes more, here) in
    let same = (both_found all x y m n within there s' t).1 in
    (same, one_frame x y (take m all) s' (subst (λ (i : ℕ). Spells y (take i all)) (sym same) t))

pub stays : (bytes more : List ℕ) (fault : DecodeFault) → fault ≢ Truncated → HasFault bytes fault → HasFault (bytes ++ more) fault
stays bytes more fault not has =
    elim has [
      | inl lacks ↦ absurd (not lacks.fault_is)
      | inr after ↦
          let len = after.value in
          let rest = after.rest in
          let spelled : bytes ++ more ≡ number4 len ++ (rest ++ more) = ap (λ (x : List ℕ). x ++ more) after.spelled ∙ append_assoc (number4 len) rest more in
          elim after.next [
            | inl large ↦ inr (record { value = len; rest = rest ++ more; good = after.good; spelled = spelled; next = inl large })
            | inr next ↦ elim next [
              | inl small ↦ inr (record { value = len; rest = rest ++ more; good = after.good; spelled = spelled; next = inr (inl small) })
              | inr next ↦ elim next [
                | inl short ↦ absurd (not short.3)
                | inr there ↦
                    let longer : len ≤ length (rest ++ more) = omega (arith, length-append rest more, there.2) in
                    let same : take len (rest ++ more) ≡ take len rest = take-append-le len rest more there.2 in
                    inr (record { value = len; rest = rest ++ more; good = after.good; spelled = spelled; next = inr (inr (inr (there.0, there.1, longer, rw same there.3))) })
              ]
            ]
          ]
    ]
