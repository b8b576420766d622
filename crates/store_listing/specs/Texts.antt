-- Texts and fields in a line.
use Rattle.std.specs.Prelude.{ℕ, ◌&&◌, ◌==◌, ◌++◌, Bool, not, nat_le, List, [], ◌∷◌, codes, if◌then◌else◌}
use Rattle.std.specs.List.{flat_map}
use Rattle.hex.specs.Hex.{encode_lower}

-- whether a byte is shown as it is: it is printable ASCII, and no space, asterisk or backslash
abbrev pub is_shown_plain : ℕ → Bool
is_shown_plain b = (nat_le 33 b && nat_le b 126) && (not (b == 42) && not (b == 92))

-- a byte of a text: itself, or `\x` and two hexadecimal digits
abbrev pub shown_byte : ℕ → List ℕ
shown_byte b = if is_shown_plain b then b ∷ [] else codes "\\x" ++ encode_lower (b ∷ [])

-- a text, byte by byte
abbrev pub shown : List ℕ → List ℕ
shown text = flat_map shown_byte text

-- a text behind a space
abbrev pub word : List ℕ → List ℕ
word text = codes " " ++ shown text

-- a field of this name behind a space, if its text has a byte
abbrev pub field : List ℕ → List ℕ → List ℕ
field name [] = []
field name (b ∷ bs) = codes " " ++ (name ++ word (b ∷ bs))

-- yes or no
abbrev pub yes_or_no : Bool → List ℕ
yes_or_no says = if says then codes "yes" else codes "no"
