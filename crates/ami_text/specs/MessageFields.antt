-- The fields of a message: those of its lines, and the value that a name has.
use Rattle.std.specs.Prelude.{◌==◌, ◌||◌, ℕ, Bool, Option, Some, None, List, [], ◌∷◌, reverse, map, if◌then◌else◌}
use Rattle.std.specs.List.{after_first, before_first, filter_map, list_any}
use Rattle.std.specs.Str.{bytes_eq}
use Rattle.std.specs.Char.{to_ascii_lowercase}
use Rattle.ami_text.specs.Lines.{content}

-- a field: its name, and its value
abbrev pub NameAndValue : Type 0
NameAndValue = List ℕ × List ℕ

-- whether a byte is a space or a tab
abbrev pub is_blank : ℕ → Bool
is_blank b = b == 32 || b == 9

-- whether a byte is a colon
abbrev pub is_colon : ℕ → Bool
is_colon b = b == 58

-- the text without spaces and tabs at its front
abbrev pub trimmed_front : List ℕ → List ℕ
trimmed_front [] = []
trimmed_front (b ∷ bs) = if is_blank b then trimmed_front bs else b ∷ bs

-- the text without spaces and tabs at its end
abbrev pub trimmed_end : List ℕ → List ℕ
trimmed_end bytes = reverse (trimmed_front (reverse bytes))

-- the text without spaces and tabs at both ends
abbrev pub trim_of : List ℕ → List ℕ
trim_of bytes = trimmed_end (trimmed_front bytes)

-- the field of a content: the text before and after the first colon, each trimmed; `None` without a
-- colon
abbrev pub field_of : List ℕ → Option (List ℕ × List ℕ)
field_of text =
    if list_any is_colon text
    then Some (trim_of (before_first is_colon text), trim_of (after_first is_colon text))
    else None

-- the fields of lines, in order; a line without a colon has none
abbrev pub fields_of : List (List ℕ) → List (List ℕ × List ℕ)
fields_of lines = filter_map (λ line. field_of (content line)) lines

-- whether two names are the same, compared without ASCII case
abbrev pub same_name : List ℕ → List ℕ → Bool
same_name a b = bytes_eq (map to_ascii_lowercase a) (map to_ascii_lowercase b)

-- the value of the first field of this name, compared without ASCII case
abbrev pub first_value : List ℕ → List (List ℕ × List ℕ) → Option (List ℕ)
first_value name [] = None
first_value name (field ∷ fields) =
    if same_name field.0 name then Some field.1 else first_value name fields

-- a text, or `None` if it is empty
abbrev pub unless_empty : Option (List ℕ) → Option (List ℕ)
unless_empty None = None
unless_empty (Some []) = None
unless_empty (Some (b ∷ bs)) = Some (b ∷ bs)

-- the value that a message has for a name; `None` if its first field of the name is empty, or it has none
abbrev pub value_of : List ℕ → List (List ℕ × List ℕ) → Option (List ℕ)
value_of name fields = unless_empty (first_value name fields)
