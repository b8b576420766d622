-- How long a read of a client may wait (this project's own).
use Rattle.std.specs.Prelude.{ℕ, ◌≡◌, ◌-◌, ◌<◌, ◌≤◌, Bool, true, false, IsSomeAnd, Option, min}
use Rattle.std.specs.Duration.{as_nanos}
use Rattle.std.specs.Option.{option_map_or}
use Rattle.std.specs.declared.time.Duration.{Duration}

-- a client that was connected `passed` nanoseconds ago may be waited for `wait`, without end where
-- there is none: once it has logged in for as long as it may be silent, before for no longer than is
-- left of the time in which it must log in, of which some is
pub record IsReadWait (logged_in : Bool) (login : Duration) (idle : Option Duration) (passed : ℕ) (wait : Option Duration) : Type 0 where
  pub behind : logged_in ≡ true → wait ≡ idle
  pub left : logged_in ≡ false → passed < as_nanos login
  pub before : logged_in ≡ false
      → IsSomeAnd wait (λ w. as_nanos w ≡ option_map_or (λ d. min (as_nanos d) (as_nanos login - passed)) idle (as_nanos login - passed))

-- the time in which a client must log in is over, and it hasn't; it was connected `passed` nanoseconds ago
abbrev pub IsTooLate : Bool → Duration → ℕ → Type 0
IsTooLate logged_in login passed = (logged_in ≡ false) × (as_nanos login ≤ passed)
