-- What a device has given, piece by piece.
use Rattle.std.proofs.Common.{◌≤◌, ℕ, List, ◌++◌, take, Option, length, ◌+◌, arith, length-append, length-take-le}
use Rattle.std.specs.Io.KnownBytes.{Consumes}
use Rattle.ami_text.specs.Devices.{HasGiven, HasGivenUpTo}
use Rattle.ami_text.proofs.Taking.{given_grows}

-- a device has given what is held, and then the prefix of a piece
pub given_more : (before now after : Option (List ℕ)) (held piece : List ℕ) (n least : ℕ) → Consumes before now held → Consumes now after (take n piece)
    → n ≤ length piece → least ≤ length held + n → HasGiven before after least
given_more before now after held piece n least is more within many = record {
  bytes = held ++ take n piece;
  given = given_grows before now after held (take n piece) is more;
  many = omega (arith, many, length-append held (take n piece), length-take-le n piece within);
}

-- a source has given no more bytes than the limit
pub given_few : (before now after : Option (List ℕ)) (held piece : List ℕ) (n most : ℕ) → Consumes before now held → Consumes now after (take n piece)
    → n ≤ length piece → length held + n ≤ most → HasGivenUpTo before after most
given_few before now after held piece n most is more within few = record {
  bytes = held ++ take n piece;
  given = given_grows before now after held (take n piece) is more;
  few = omega (arith, few, length-append held (take n piece), length-take-le n piece within);
}
