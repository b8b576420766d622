-- The result of decoding.
use Rattle.std.specs.Prelude.{ℕ, ◌≡◌, ◌≢◌, ◌⊎◌, ◌↔◌, ◌<◌, ◌≤◌, List, ◌++◌, length, take, drop, Option, Some, None, Result, Ok, Err, IfErr, IfOk}
use Rattle.std.specs.List.{All}
use Rattle.std.specs.Result.{IsOkAnd}
use Rattle.delta.specs.Frames.{IsSameFrame}
use Rattle.delta_codec.specs.declared.decode_fault.DecodeFault.{DecodeFault}
use Rattle.delta_codec.specs.declared.decode_fault.DecodeFault.TheVariants.{Memory, Truncated}
use Rattle.delta.specs.declared.frame.Frame.{Frame}
use Rattle.delta_codec.specs.declared.limits.TheConstants.{LEAST_LENGTH, MOST_LENGTH}
use Rattle.delta_codec.specs.Faults.{HasFault, number4}
use Rattle.delta_codec.specs.Frames.{Heading, IsHeading, IsVersion, Spells, opening_bytes}
use Rattle.delta_codec.specs.Reading.{Kept}

-- a statement holds, or an allocation was refused
abbrev pub UnlessMemory : {T : Type 0} → Result T DecodeFault → Type 0 → Type 0
UnlessMemory result fact = (result ≡ Err Memory) ⊎ fact

-- what a frame keeps
abbrev pub frame_kept : Frame → Kept
frame_kept frame = (record { maker = frame.maker; number = frame.number }, (frame.delta.members.known, (frame.delta.members.live, frame.delta.totals.entries)))

-- each number of a list is a byte
abbrev pub AreBytes : List ℕ → Type 0
AreBytes bytes = All (λ b. b < 256) bytes

-- bytes begin with a frame
pub record BeginsWithFrame (bytes : List ℕ) : Type 0 where
  pub frame : Frame
  pub len : ℕ
  pub there : len ≤ length bytes
  pub spelled : Spells frame (take len bytes)

-- bytes have a fault
pub record IsAtFault (bytes : List ℕ) : Type 0 where
  pub fault : DecodeFault
  pub has : HasFault bytes fault

-- A result is the frame that bytes begin with, and how many bytes it has: it is such a frame; each such frame is the result, unless
-- memory is refused.
pub record IsFrontFrame (bytes : List ℕ) (result : Result (Frame × ℕ) DecodeFault) : Type 0 where
  pub all_there : IfOk result (λ x. x.1 ≤ length bytes)
  pub spelled : IfOk result (λ x. Spells x.0 (take x.1 bytes))
  pub found : (frame : Frame) (n : ℕ) → n ≤ length bytes → Spells frame (take n bytes)
      → UnlessMemory result (IsOkAnd result (λ x. IsSameFrame x.0 frame × (x.1 ≡ n)))

-- A frame has begun: a length within its limits, as many bytes after it, and at the front of these the magic, a version that is
-- read and a heading.
pub record HasOpening (bytes : List ℕ) : Type 0 where
  pub version : ℕ
  pub heading : Heading
  pub content : List ℕ
  pub more : List ℕ
  pub rest : List ℕ
  pub known : IsVersion version
  pub good : IsHeading heading
  pub least : LEAST_LENGTH ≤ length content
  pub most : length content ≤ MOST_LENGTH
  pub opens : content ≡ opening_bytes version heading ++ more
  pub spelled : bytes ≡ (number4 (length content) ++ content) ++ rest

-- A result is the fault that bytes have: it is one of theirs, or memory was refused; theirs is the result, unless memory is
-- refused; where they are too short the result says so with or without memory; and it is out of memory only where a frame has
-- begun.
pub record IsFrontFault (bytes : List ℕ) (result : Result (Frame × ℕ) DecodeFault) : Type 0 where
  pub had : IfErr result (λ fault. (fault ≡ Memory) ⊎ HasFault bytes fault)
  pub reported : (fault : DecodeFault) → HasFault bytes fault → UnlessMemory result (result ≡ Err fault)
  pub truncated : HasFault bytes Truncated → result ≡ Err Truncated
  pub memory : result ≡ Err Memory → HasOpening bytes

-- there is a value with this property
abbrev pub IsSomeAnd : {T : Type 0} → Option T → (T → Type 0) → Type 0
IsSomeAnd None P = ⊥
IsSomeAnd (Some x) P = P x

-- a frame was taken from the front of the bytes that were held
pub record IsTaken (old new : List ℕ) (frame : Frame) : Type 0 where
  pub len : ℕ
  pub there : len ≤ length old
  pub spelled : Spells frame (take len old)
  pub left : new ≡ drop len old

-- the bytes held after a call: those after the frame that was taken, or all
abbrev pub Leaves : List ℕ → Result (Option Frame) DecodeFault → List ℕ → Type 0
Leaves old (Ok (Some frame)) new = IsTaken old new frame
Leaves old (Ok None) new = new ≡ old
Leaves old (Err fault) new = new ≡ old

-- The result of a splitter that held the bytes `old`, and what it holds then. A frame that they begin with is taken, unless memory
-- is refused.
pub record IsNextFrame (old : List ℕ) (result : Result (Option Frame) DecodeFault) (new : List ℕ) : Type 0 where
  pub leaves : Leaves old result new
  pub found : (frame : Frame) (n : ℕ) → n ≤ length old → Spells frame (take n old)
      → UnlessMemory result (IsOkAnd result (λ next. IsSomeAnd next (λ x. IsSameFrame x frame × (new ≡ drop n old))))

-- The fault of a splitter that held the bytes `old`: none, exactly where they are no whole frame yet; or one that they have, or
-- memory was refused, and that only where a frame has begun; and it returns a fault that they have, unless memory is refused.
pub record IsNextFault (old : List ℕ) (result : Result (Option Frame) DecodeFault) : Type 0 where
  pub none : (result ≡ Ok None) ↔ HasFault old Truncated
  pub had : IfErr result (λ fault. (fault ≡ Memory) ⊎ (HasFault old fault × (fault ≢ Truncated)))
  pub reported : (fault : DecodeFault) → HasFault old fault → fault ≢ Truncated → UnlessMemory result (result ≡ Err fault)
  pub memory : result ≡ Err Memory → HasOpening old
