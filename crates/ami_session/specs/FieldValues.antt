-- How the values of fields are read.
use Rattle.std.specs.Prelude.{ℕ, ◌==◌, ◌||◌, Bool, nat_lt, List, [], ◌∷◌, length, codes, Option, Some, None, unwrap_or, if◌then◌else◌}
use Rattle.std.specs.List.{list_any}
use Rattle.std.specs.Option.{option_and_then}
use Rattle.dots.specs.declared.limits.TheConstants.{MOST_PENALTY, TEXT_BYTES}
use Rattle.dots.specs.Values.{is_bad_byte}
use Rattle.ami_text.specs.MessageFields.{same_name, value_of}
use Rattle.ami_text.specs.Numbers.{number_in}

-- a message: its fields, each a name and a value
abbrev pub Fields : Type 0
Fields = List (List ℕ × List ℕ)

-- whether `text` is `word`, compared without ASCII case, as names are
abbrev pub is_word : List ℕ → List ℕ → Bool
is_word text word = same_name text word

-- whether byte `b` is CR or NUL, which may not stand in an ActionID
abbrev pub is_bad_in_id : ℕ → Bool
is_bad_in_id b = b == 13 || b == 0

-- an ActionID as replies repeat it: no bytes where CR or NUL stands in it
abbrev pub clean_id : List ℕ → List ℕ
clean_id value = if list_any is_bad_in_id value then [] else value

-- the ActionID of message `m` as replies repeat it; no bytes where it has none
abbrev pub id_of : Fields → List ℕ
id_of m = clean_id (unwrap_or (value_of (codes "ActionID") m) [])

-- whether `value` says yes: it is one of yes, true, y, t, 1 and on, compared without ASCII case
abbrev pub is_yes : List ℕ → Bool
is_yes value =
    is_word value (codes "yes") || is_word value (codes "true") || is_word value (codes "y") || is_word value (codes "t") || is_word value (codes "1")
    || is_word value (codes "on")

-- `bytes` as a text, where there are at most 80, without CR, LF and NUL
abbrev pub text_of : List ℕ → Option (List ℕ)
text_of bytes = if nat_lt TEXT_BYTES (length bytes) then None else if list_any is_bad_byte bytes then None else Some bytes

-- bytes as a name: a text that has a byte
abbrev pub name_of : List ℕ → Option (List ℕ)
name_of [] = None
name_of (b ∷ bs) = text_of (b ∷ bs)

-- the penalty `n`; `None` where `n` is above 2,147,483,647
abbrev pub as_penalty : ℕ → Option ℕ
as_penalty n = if nat_lt MOST_PENALTY n then None else Some n

-- the penalty that a value of 1 to 10 decimal digits stands for, at most 2,147,483,647; `None` of
-- any other value
abbrev pub penalty_of : List ℕ → Option ℕ
penalty_of digits = option_and_then as_penalty (number_in 10 digits)
