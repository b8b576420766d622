-- What contracts see of an ear for a bell.
use Rattle.std.specs.Prelude.{ℕ, Bool}

-- how many rings were heard in this round, whether the round has ended, and whether the bell was found ended
pub record EarState : Type 0 where
  pub rings : ℕ
  pub ended : Bool
  pub closed : Bool
