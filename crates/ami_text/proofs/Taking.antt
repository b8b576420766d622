-- What a source has left and what a sink has taken, piece by piece.
use Rattle.std.proofs.Common.{◌≡◌, ℕ, List, [], ◌++◌, take, drop, refl, sym, ◌∙◌, ap, append_assoc, append-nil, Option, Some, None, length, ◌-◌}
use Rattle.std.proofs.lemmas.List.{take-append-drop, take_rest}
use Rattle.std.specs.Io.KnownBytes.{Appends, Consumes}

-- a sink has taken nothing
pub taken_none : (known : Option (List ℕ)) → Appends known known []
taken_none None = tt
taken_none (Some held) = sym (append-nil held)

-- a sink has taken a prefix, and then a piece
pub taken_grows : (before now after : Option (List ℕ)) (front piece : List ℕ) → Appends before now front → Appends now after piece
    → Appends before after (front ++ piece)
taken_grows None now after front piece first then = tt
taken_grows (Some held) (Some more) (Some all) front piece first then =
    then ∙ ap (λ t. t ++ piece) first ∙ append_assoc held front piece
taken_grows (Some held) (Some more) None front piece first then = absurd then
taken_grows (Some held) None after front piece first then = absurd first

-- a source has given nothing
pub given_none : (known : Option (List ℕ)) → Consumes known known []
given_none None = tt
given_none (Some left) = refl

-- a source has given a prefix, and then a piece
pub given_grows : (before now after : Option (List ℕ)) (front piece : List ℕ) → Consumes before now front → Consumes now after piece
    → Consumes before after (front ++ piece)
given_grows None now after front piece first then = tt
given_grows (Some all) (Some more) (Some left) front piece first then =
    first ∙ ap (λ t. front ++ t) then ∙ sym (append_assoc front piece left)
given_grows (Some all) (Some more) None front piece first then = absurd then
given_grows (Some all) None after front piece first then = absurd first

-- a prefix of bytes grows by the next bytes
pub front_grows : (bytes front rest : List ℕ) (n : ℕ) → bytes ≡ front ++ rest → bytes ≡ (front ++ take n rest) ++ take (length rest - n) (drop n rest)
front_grows bytes front rest n is =
    is ∙ ap (λ t. front ++ t) (sym (take-append-drop n rest)) ∙ sym (append_assoc front (take n rest) (drop n rest))
    ∙ ap (λ t. (front ++ take n rest) ++ t) (sym (take_rest rest n))
