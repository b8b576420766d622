-- What is read of a base, part by part.
use Rattle.std.specs.Prelude.{ℕ, ◌≡◌, ◌<◌, ◌^◌, List, ◌++◌, length}
use Rattle.delta.specs.DeltaStates.{DeltaState}
use Rattle.stored_steps.specs.declared.limits.TheConstants.{NAME_BYTES}
use Rattle.stored_steps.specs.Bases.{SpellsDelta, numbers_bytes}

-- bytes begin with a name and numbers, and `frames` follow them
pub record IsHead (name : List ℕ) (starts : ℕ) (last : ℕ × ℕ × ℕ) (frames bytes : List ℕ) : Type 0 where
  pub name_is : length name ≡ NAME_BYTES
  pub starts_fit : starts < 2 ^ 64
  pub count : last.0 < 2 ^ 64
  pub time : last.1 < 2 ^ 64
  pub number : last.2 < 2 ^ 64
  pub is : bytes ≡ name ++ (numbers_bytes starts last ++ frames)

-- bytes begin with the spelling of a delta, and `rest` follows it
pub record IsDeltaAtFront (site : ℕ) (delta : DeltaState) (bytes rest : List ℕ) : Type 0 where
  pub frame : List ℕ
  pub spelled : SpellsDelta site delta frame
  pub is : bytes ≡ frame ++ rest

-- bytes are the spellings of a state and a buffer
pub record HasParts (site : ℕ) (state pending : DeltaState) (bytes : List ℕ) : Type 0 where
  pub first : List ℕ
  pub second : List ℕ
  pub state_is : SpellsDelta site state first
  pub pending_is : SpellsDelta site pending second
  pub is : bytes ≡ first ++ second
