-- What a link of a server brings: frames, and marks without a byte (this project's own).
use Rattle.std.specs.Prelude.{ℕ, List, [], ◌∷◌}

-- the items that are frames, in order
abbrev pub frames_among : List (List ℕ) → List (List ℕ)
frames_among [] = []
frames_among ([] ∷ items) = frames_among items
frames_among ((byte ∷ bytes) ∷ items) = (byte ∷ bytes) ∷ frames_among items
