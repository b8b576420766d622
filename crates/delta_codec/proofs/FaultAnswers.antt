-- Which fault is answered, of bytes and of what a splitter holds.
use Rattle.std.proofs.Common.{◌≡◌, ◌≢◌, ◌⊎◌, ℕ, List, ◌++◌, Option, Some, None, Result, Ok, Err, refl, sym, ap, ◌∙◌, inl, inr}
use Rattle.delta_codec.specs.declared.decode_fault.DecodeFault.{DecodeFault}
use Rattle.delta_codec.specs.declared.decode_fault.DecodeFault.TheVariants.{Truncated, Memory}
use Rattle.delta.specs.declared.frame.Frame.{Frame}
use Rattle.delta_codec.specs.Decoding.{HasOpening, IsFrontFault, IsNextFault, UnlessMemory}
use Rattle.delta_codec.specs.Faults.{HasFault}
use Rattle.delta_codec.specs.Frames.{Heading, magic}
use Rattle.delta_codec.specs.Parts.{byte}
use Rattle.delta_codec.specs.Reading.{◌>>=◌, Fails, GivesWithMemory, Kept, content_in, heading_at, kept_at, kept_in, magic_at, opening_at, opening_in, version_at}
use Rattle.delta_codec.proofs.CellLaws.{heading_reads}
use Rattle.delta_codec.proofs.ContentLaws.{magic_reads, version_reads}
use Rattle.delta_codec.proofs.FrameAnswers.{fails_is, seen}
use Rattle.delta_codec.proofs.FrameFaults.{content_reports, counted, counted_fails, frame_reports}
use Rattle.delta_codec.proofs.FrameLaws.{content_found}
use Rattle.delta_codec.proofs.InnerFaults.{never_memory, never_truncated}
use Rattle.delta_codec.proofs.PartFaults.{bind_err, fault_is, not_both, outcome}
use Rattle.delta_codec.proofs.PartLaws.{IsBytes, bind_ok}

-- ---- the opening

-- a fault of the opening is that of the whole
opening_fails : (bytes : List ℕ) (fault : DecodeFault) → opening_in bytes ≡ Err fault → kept_in bytes ≡ Err fault
unfolding opening_in opening_at kept_in kept_at
opening_fails bytes fault e =
    elim (bind_err (content_in bytes) opening_at fault e) [
      | inl here ↦ rw here refl
      | inr content ↦ elim (bind_err (magic_at content.0) (λ letters. version_at letters.1 >>= λ version. heading_at version.1) fault content.2) [
        | inl here ↦ rw (content.1, here) refl
        | inr letters ↦ elim (bind_err (version_at letters.0.1) (λ version. heading_at version.1) fault letters.2) [
          | inl here ↦ rw (content.1, letters.1, here) refl
          | inr version ↦ rw (content.1, letters.1, version.1, version.2) refl
        ]
      ]
    ]

-- an opening that is read is at the front of the bytes
opening_found : (bytes : List ℕ) (heading : Heading) (more : List ℕ) → IsBytes bytes → opening_in bytes ≡ Ok (heading, more) → HasOpening bytes
unfolding opening_in opening_at
opening_found bytes heading more fits e =
    let found : Heading × List ℕ = (heading, more) in
    let content = bind_ok (content_in bytes) opening_at found e in
    let front = content_found bytes content.0 fits content.1 in
    let letters = bind_ok (magic_at content.0) (λ letters. version_at letters.1 >>= λ version. heading_at version.1) found content.2 in
    let m = magic_reads.takes content.0 letters.0.0 letters.0.1 front.fits letters.1 in
    let version = bind_ok (version_at letters.0.1) (λ version. heading_at version.1) found letters.2 in
    let v = version_reads.takes letters.0.1 version.0.0 version.0.1 m.rest_fits version.1 in
    let h = heading_reads.takes version.0.1 heading more v.rest_fits version.2 in
    record {
      version = version.0.0;
      heading = heading;
      content = content.0;
      more = more;
      rest = front.rest;
      known = v.good;
      good = h.good;
      least = front.least;
      most = front.most;
      opens = m.parts ∙ (λ i. m.good i ++ v.parts i) ∙ ap (λ (x : List ℕ). magic ++ (byte version.0.0 ++ x)) h.parts;
      spelled = front.parts;
    }

-- ---- bytes

abbrev Answer : Type 0
Answer = Result (Frame × ℕ) DecodeFault

abbrev fault_of : DecodeFault → Answer
fault_of fault = Err fault

abbrev IsEarly : List ℕ → Answer → Type 0
IsEarly bytes result = (fault : DecodeFault) → opening_in bytes ≡ Err fault → result ≡ Err fault

fault_had : (bytes : List ℕ) (fault : DecodeFault) → IsBytes bytes → Fails fault (kept_in bytes) → (fault ≡ Memory) ⊎ HasFault bytes fault
fault_had bytes fault fits h =
    elim (fails_is fault (kept_in bytes) h) [
      | inl memory ↦ inl memory
      | inr reads ↦ inr (frame_reports.only bytes fault fits reads)
    ]

fault_reported : (bytes : List ℕ) (result : Answer) (fault : DecodeFault) → IsBytes bytes → GivesWithMemory seen result (kept_in bytes) → HasFault bytes fault → UnlessMemory result (result ≡ Err fault)
fault_reported bytes (Ok x) fault fits h has = absurd (not_both (kept_in bytes) (seen x) fault h (frame_reports.always bytes fault fits has))
fault_reported bytes (Err other) fault fits h has =
    elim (fails_is other (kept_in bytes) h) [
      | inl memory ↦ inl (ap fault_of memory)
      | inr reads ↦ inr (ap fault_of (fault_is {A = Kept × ℕ} other fault (sym reads ∙ frame_reports.always bytes fault fits has)))
    ]

is_truncated : (bytes : List ℕ) (result : Answer) → IsBytes bytes → IsEarly bytes result → HasFault bytes Truncated → result ≡ Err Truncated
unfolding kept_in opening_in
is_truncated bytes result fits early has =
    elim (bind_err (content_in bytes) counted Truncated (frame_reports.always bytes Truncated fits has)) [
      | inl short ↦ early Truncated (rw short refl)
      | inr there ↦
          let front = content_found bytes there.0 fits there.1 in
          absurd (never_truncated Truncated there.0 (content_reports.only there.0 Truncated front.fits (counted_fails there.0 Truncated there.2)) refl)
    ]

begins : (bytes : List ℕ) (result : Answer) → IsBytes bytes → IsEarly bytes result → result ≡ Err Memory → HasOpening bytes
begins bytes result fits early memory =
    elim (outcome (opening_in bytes)) [
      | inl found ↦ opening_found bytes found.0.0 found.0.1 fits found.1
      | inr stopped ↦
          let same = fault_is {A = Frame × ℕ} stopped.0 Memory (sym (early stopped.0 stopped.1) ∙ memory) in
          absurd (never_memory stopped.0 bytes (frame_reports.only bytes stopped.0 fits (opening_fails bytes stopped.0 stopped.1)) same)
    ]

pub front_fault : (bytes : List ℕ) (result : Answer) → IsBytes bytes → GivesWithMemory seen result (kept_in bytes) → IsEarly bytes result → IsFrontFault bytes result
front_fault bytes (Ok x) fits h early = record {
  had = tt;
  reported = λ fault has. fault_reported bytes (Ok x) fault fits h has;
  truncated = λ has. is_truncated bytes (Ok x) fits early has;
  memory = λ e. begins bytes (Ok x) fits early e;
}
front_fault bytes (Err fault) fits h early = record {
  had = fault_had bytes fault fits h;
  reported = λ other has. fault_reported bytes (Err fault) other fits h has;
  truncated = λ has. is_truncated bytes (Err fault) fits early has;
  memory = λ e. begins bytes (Err fault) fits early e;
}

-- ---- what a splitter holds

abbrev Next : Type 0
Next = Result (Option Frame) DecodeFault

abbrev next_fault_of : DecodeFault → Next
next_fault_of fault = Err fault

pub next_taken : (old : List ℕ) (frame : Frame) (len : ℕ) → IsFrontFault old (Ok (frame, len)) → IsNextFault old (Ok (Some frame))
next_taken old frame len h = record {
  none = (λ e. absurd cc, λ has. absurd (let never = h.truncated has in cc));
  had = tt;
  reported = λ fault has not. elim (h.reported fault has) [
    | inl memory ↦ absurd cc
    | inr same ↦ absurd cc
  ];
  memory = λ e. absurd cc;
}

pub next_missing : (old : List ℕ) → IsFrontFault old (Err Truncated) → IsNextFault old (Ok None)
next_missing old h = record {
  none = (
    λ _. elim h.had [
      | inl memory ↦ absurd cc
      | inr has ↦ has
    ],
    λ _. refl,
  );
  had = tt;
  reported = λ fault has not. elim (h.reported fault has) [
    | inl memory ↦ absurd cc
    | inr same ↦ absurd (not (sym (fault_is {A = Frame × ℕ} Truncated fault same)))
  ];
  memory = λ e. absurd cc;
}

pub next_fails : (old : List ℕ) (fault : DecodeFault) → fault ≢ Truncated → IsFrontFault old (Err fault) → IsNextFault old (Err fault)
next_fails old fault not h = record {
  none = (λ e. absurd cc, λ has. absurd (not (fault_is {A = Frame × ℕ} fault Truncated (h.truncated has))));
  had = elim h.had [
    | inl memory ↦ inl memory
    | inr has ↦ inr (has, not)
  ];
  reported = λ other has _. elim (h.reported other has) [
    | inl memory ↦ inl (ap next_fault_of (fault_is {A = Frame × ℕ} fault Memory memory))
    | inr same ↦ inr (ap next_fault_of (fault_is {A = Frame × ℕ} fault other same))
  ];
  memory = λ e. h.memory (ap fault_of (fault_is {A = Option Frame} fault Memory e));
}
