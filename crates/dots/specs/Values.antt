-- What contracts see of the values: plain numbers, lists of bytes and records of these.
use Rattle.std.specs.Prelude.{ℕ, Bool, false, ◌≡◌, ◌<◌, ◌≤◌, ◌==◌, ◌||◌, List, length}
use Rattle.std.specs.List.{list_any}
use Rattle.dots.specs.declared.limits.TheConstants.{MOST_COUNT, MOST_PENALTY, SITES, TEXT_BYTES}

-- a dot: the site that made an add, and which of its adds it is, from 1 (RR-8083's tag: a replica and a counter)
pub record Dot : Type 0 where
  pub site : ℕ
  pub count : ℕ

-- a stamp: when a value was written, and at which site (RR-7506's timestamp, made unique by its site)
pub record Stamp : Type 0 where
  pub time : ℕ
  pub site : ℕ

-- whether a member is paused, and why
pub record PauseState : Type 0 where
  pub paused : Bool
  pub reason : List ℕ

-- `number` is that of a site: it is below 64
abbrev pub IsSite : ℕ → Type 0
IsSite number = number < SITES

-- `n` may be the count of a dot, the time of a stamp or the number of a frame: it is from 1 to 2^40
abbrev pub IsCount : ℕ → Type 0
IsCount n = (1 ≤ n) × (n ≤ MOST_COUNT)

-- `n` may be a penalty: it is at most 2,147,483,647
abbrev pub IsPenalty : ℕ → Type 0
IsPenalty n = n ≤ MOST_PENALTY

-- whether byte `b` is NUL, LF or CR, which would end or break a line of the Manager's protocol
abbrev pub is_bad_byte : ℕ → Bool
is_bad_byte b = b == 0 || (b == 10 || b == 13)

-- `bytes` may be a text: there are at most 80, and none is NUL, LF or CR
pub record IsText (bytes : List ℕ) : Type 0 where
  pub short : length bytes ≤ TEXT_BYTES
  pub clean : list_any is_bad_byte bytes ≡ false

-- `bytes` may be an interface or the name of a queue: a text of at least one byte
pub record IsName (bytes : List ℕ) : Type 0 where
  pub text : IsText bytes
  pub present : 0 < length bytes
