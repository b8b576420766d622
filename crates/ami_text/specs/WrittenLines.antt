-- The lines of a message that is written (Asterisk's Manager Interface).
use Rattle.std.specs.Prelude.{ℕ, List, [], ◌∷◌, ◌++◌, codes}

-- a field: its name, a colon and one space, its value, and the line's end
abbrev pub field : List ℕ → List ℕ → List ℕ
field name value = name ++ codes ": " ++ value ++ codes "\r\n"

-- the line of an ActionID, where there is one
abbrev pub action_id_line : List ℕ → List ℕ
action_id_line [] = []
action_id_line (x ∷ xs) = field (codes "ActionID") (x ∷ xs)
