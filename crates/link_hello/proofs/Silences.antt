-- When too little came of a source.
use Rattle.std.proofs.Common.{◌≡◌, ◌++◌, ◌+◌, ◌≤◌, Bool, List, Option, arith, inl, inr, length, length-append, take, ℕ}
use Rattle.std.proofs.lemmas.List.{length-take-le}
use Rattle.std.specs.Io.KnownBytes.{Consumes}
use Rattle.ami_text.proofs.Taking.{given_grows}
use Rattle.ami_text.specs.Devices.{HasGivenUpTo}
use Rattle.link_hello.specs.Hellos.{IsSilence, opening}

-- what came before the silence is no matter
pub silence_grows : (first before after : Option (List ℕ)) (bytes : List ℕ) (ended failed : Bool)
    → Consumes first before bytes → IsSilence before after ended failed → IsSilence first after ended failed
silence_grows first before after bytes ended failed came (inl fails) = inl fails
silence_grows first before after bytes ended failed came (inr (inl ends)) = inr (inl ends)
silence_grows first before after bytes ended failed came (inr (inr given)) = inr (inr (record {
  bytes = bytes ++ given.bytes;
  given = given_grows first before after bytes given.bytes came given.given;
  many = omega (arith, length-append bytes given.bytes, given.many);
}))

-- sixteen reads that gave a byte each
pub silence_of_reads : (before after : Option (List ℕ)) (piece : List ℕ) (count reads : ℕ) (ended failed : Bool)
    → Consumes before after (take count piece) → count ≤ length piece → reads ≤ count → 16 ≤ reads → IsSilence before after ended failed
silence_of_reads before after piece count reads ended failed came low each many = inr (inr (record {
  bytes = take count piece;
  given = came;
  many = omega (arith, length-take-le count piece low);
}))

-- a source that has given some bytes, and then no more than a number of them
pub up_to_grows : (first before after : Option (List ℕ)) (bytes : List ℕ) (most total : ℕ) → Consumes first before bytes
    → HasGivenUpTo before after most → length bytes + most ≤ total → HasGivenUpTo first after total
up_to_grows first before after bytes most total came given low = record {
  bytes = bytes ++ given.bytes;
  given = given_grows first before after bytes given.bytes came given.given;
  few = omega (arith, length-append bytes given.bytes, given.few, low);
}

-- no more than a smaller number is no more than a greater one
pub fewer : (before after : Option (List ℕ)) (most total : ℕ) → HasGivenUpTo before after most → most ≤ total → HasGivenUpTo before after total
fewer before after most total given low = record { bytes = given.bytes; given = given.given; few = omega (arith, given.few, low) }

-- a source that has given an opening, and then no more than a number of bytes
pub opening_then : (first before after : Option (List ℕ)) (nonce : List ℕ) (most total : ℕ) → Consumes first before (opening nonce)
    → length nonce ≡ 32 → HasGivenUpTo before after most → 37 + most ≤ total → HasGivenUpTo first after total
opening_then first before after nonce most total came long given low = up_to_grows first before after (opening nonce) most total came given (omega (arith, long, low))
