-- Numbers in a text, as decimal digits.
use Rattle.std.specs.Prelude.{ℕ, ◌+◌, ◌*◌, ◌-◌, not, nat_lt, List, [], ◌∷◌, length, Option, Some, None, if◌then◌else◌}
use Rattle.std.specs.List.{list_all}
use Rattle.std.specs.Char.{is_ascii_digit}

-- the number whose decimal digits are those of `n`, followed by these
abbrev pub read_on : ℕ → List ℕ → ℕ
read_on n [] = n
read_on n (d ∷ ds) = read_on (n * 10 + (d - 48)) ds

-- the number that decimal digits stand for
abbrev pub number_of : List ℕ → ℕ
number_of digits = read_on 0 digits

-- the number that 1 to `most` decimal digits spell; `None` for other bytes or another length
abbrev pub number_in : ℕ → List ℕ → Option ℕ
number_in most [] = None
number_in most (d ∷ ds) =
    if nat_lt most (length (d ∷ ds)) then None else if not (list_all is_ascii_digit (d ∷ ds)) then None else Some (number_of (d ∷ ds))
