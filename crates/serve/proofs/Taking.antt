-- What a sink has taken, piece by piece.
use Rattle.std.proofs.Common.{ℕ, List, ◌++◌, sym, ◌∙◌, ap, append_assoc, Option}
use Rattle.std.specs.Io.KnownBytes.{Appends}
use Rattle.ami_text.proofs.Taking.{taken_grows}
use Rattle.ami_text.specs.Devices.{HasTaken}

-- a prefix of the first part is one of the whole
pub begun_first : (before after : Option (List ℕ)) (first then : List ℕ) → HasTaken before after first → HasTaken before after (first ++ then)
begun_first before after first then begun = record {
  front = begun.front;
  rest = begun.rest ++ then;
  is = ap (λ t. t ++ then) begun.is ∙ append_assoc begun.front begun.rest then;
  taken = begun.taken;
}

-- the first part with a prefix of the second is a prefix of the whole
pub begun_then : (before now after : Option (List ℕ)) (first then : List ℕ) → Appends before now first → HasTaken now after then
    → HasTaken before after (first ++ then)
begun_then before now after first then taken begun = record {
  front = first ++ begun.front;
  rest = begun.rest;
  is = ap (λ t. first ++ t) begun.is ∙ sym (append_assoc first begun.front begun.rest);
  taken = taken_grows before now after first begun.front taken begun.taken;
}
