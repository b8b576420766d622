-- The content of a line, by its kind.
use Rattle.std.specs.Prelude.{◌≡◌, ◌<◌, ◌≤◌, ℕ, List, length}
use Rattle.ami_text.specs.declared.line_kind.LineKind.{LineKind}
use Rattle.ami_text.specs.declared.line_kind.LineKind.TheVariants.{Empty, Full, TooLong}
use Rattle.ami_text.specs.Lines.{content}

-- a line's content is of this kind: empty, of at most 1,024 bytes, or longer
abbrev pub HasKind : List ℕ → LineKind → Type 0
HasKind line Empty = length (content line) ≡ 0
HasKind line Full = (0 < length (content line)) × (length (content line) ≤ 1024)
HasKind line TooLong = 1024 < length (content line)
