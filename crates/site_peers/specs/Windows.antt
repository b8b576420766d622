-- What was written and read of a link, and what of it was acknowledged (this project's own).
use Rattle.std.specs.Prelude.{ℕ, Option}

-- how many bytes were written, and how many of them the peer has acknowledged
pub record WindowState : Type 0 where
  pub written : ℕ
  pub acknowledged : ℕ

-- how many bytes were read, how many of them were acknowledged, and when that was last done, in milliseconds
pub record ReadState : Type 0 where
  pub read : ℕ
  pub acknowledged : ℕ
  pub last : ℕ

-- since when an item is read that isn't whole yet, how many bytes of it were read, and when bytes were last read, in milliseconds
pub record ItemTimeState : Type 0 where
  pub begun : Option ℕ
  pub read : ℕ
  pub last : ℕ
