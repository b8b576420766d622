-- What is written behind bytes.
use Rattle.std.specs.Prelude.{ℕ, ◌≡◌, List, ◌++◌}
use Rattle.delta.specs.DeltaStates.{DeltaState}
use Rattle.stored_steps.specs.Bases.{SpellsDelta}

-- the bytes `new` are `old` and the spelling of a delta
pub record AppendsDelta (site : ℕ) (delta : DeltaState) (old new : List ℕ) : Type 0 where
  pub frame : List ℕ
  pub spelled : SpellsDelta site delta frame
  pub is : new ≡ old ++ frame
