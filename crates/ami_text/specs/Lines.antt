-- The lines of a Manager stream, each without the LF that ends it.
use Rattle.std.specs.Prelude.{◌≡◌, ◌≢◌, ◌<◌, ◌≤◌, ◌-◌, ◌==◌, ℕ, List, [], ◌∷◌, ◌++◌, length, take, slice_index, All, if◌then◌else◌}
use Rattle.std.specs.List.{flat_map}

-- no byte is LF
abbrev pub HasNoLf : List ℕ → Type 0
HasNoLf bytes = All (λ b. b ≢ 10) bytes

-- a line's content: the line without one CR at its end
abbrev pub content : List ℕ → List ℕ
content line = if slice_index line (length line - 1) == 13 then take (length line - 1) line else line

-- an empty line has no content
pub record IsEmptyLine (line : List ℕ) : Type 0 where
  pub no_lf : HasNoLf line
  pub empty : length (content line) ≡ 0

-- a line of a message: some content, and at most 1,024 bytes of it
pub record IsFullLine (line : List ℕ) : Type 0 where
  pub no_lf : HasNoLf line
  pub some : 0 < length (content line)
  pub fits : length (content line) ≤ 1024

-- the bytes of whole lines: LF ends each
abbrev pub lines_text : List (List ℕ) → List ℕ
lines_text lines = flat_map (λ line. line ++ 10 ∷ []) lines
