-- Whether a stream has had a whole message: lines as those of the Manager stream, without its limits.
use Rattle.std.specs.Prelude.{ℕ, ◌≡◌, ◌<◌, ◌==◌, ⊤, List, [], ◌∷◌, ◌++◌, length, if◌then◌else◌}
use Rattle.std.specs.List.{All}
use Rattle.ami_text.specs.Lines.{HasNoLf, content, IsEmptyLine, lines_text}
use Rattle.ami_text.specs.declared.first_message_so_far.FirstMessageSoFar.{FirstMessageSoFar}
use Rattle.ami_text.specs.declared.first_message_so_far.FirstMessageSoFar.TheVariants.{Awaited, Begun, Ended}
use Rattle.ami_text.specs.declared.first_message_so_far.LineSoFar.{LineSoFar}
use Rattle.ami_text.specs.declared.first_message_so_far.LineSoFar.TheVariants.{Empty, Cr, Full}

-- ---- byte by byte

-- a line after one more byte, which isn't LF
abbrev pub line_after : LineSoFar → ℕ → LineSoFar
line_after Empty byte = if byte == 13 then Cr else Full
line_after Cr byte = Full
line_after Full byte = Full

-- a message after the end of a line
abbrev pub after_end : FirstMessageSoFar → FirstMessageSoFar
after_end (Awaited Empty) = Awaited Empty
after_end (Awaited Cr) = Awaited Empty
after_end (Awaited Full) = Begun Empty
after_end (Begun Empty) = Ended
after_end (Begun Cr) = Ended
after_end (Begun Full) = Begun Empty
after_end Ended = Ended

-- a message after one more byte, which isn't LF
abbrev pub after_content : FirstMessageSoFar → ℕ → FirstMessageSoFar
after_content (Awaited line) byte = Awaited (line_after line byte)
after_content (Begun line) byte = Begun (line_after line byte)
after_content Ended byte = Ended

-- a message with one byte more
abbrev pub message_after : FirstMessageSoFar → ℕ → FirstMessageSoFar
message_after message byte = if byte == 10 then after_end message else after_content message byte

-- the message has ended
abbrev pub IsEnded : FirstMessageSoFar → Type 0
IsEnded Ended = ⊤
IsEnded (Awaited line) = ⊥
IsEnded (Begun line) = ⊥

-- ---- the state of the bytes

-- a whole line with content
pub record HasContent (line : List ℕ) : Type 0 where
  pub no_lf : HasNoLf line
  pub some : 0 < length (content line)

-- the bytes of a line so far: none, one CR, or some content
abbrev pub IsLineSoFar : List ℕ → LineSoFar → Type 0
IsLineSoFar part Empty = part ≡ []
IsLineSoFar part Cr = part ≡ 13 ∷ []
IsLineSoFar part Full = HasContent part

-- the bytes are empty lines, followed by this part of a line
pub record IsAwaited (sent : List ℕ) (line : LineSoFar) : Type 0 where
  pub empties : List (List ℕ)
  pub part : List ℕ
  pub each_empty : All IsEmptyLine empties
  pub so_far : IsLineSoFar part line
  pub whole : sent ≡ lines_text empties ++ part

-- the bytes are empty lines, lines with content, and this part of a line
pub record IsBegun (sent : List ℕ) (line : LineSoFar) : Type 0 where
  pub empties : List (List ℕ)
  pub lines : List (List ℕ)
  pub part : List ℕ
  pub each_empty : All IsEmptyLine empties
  pub each_full : All HasContent lines
  pub some : 0 < length lines
  pub so_far : IsLineSoFar part line
  pub whole : sent ≡ lines_text empties ++ (lines_text lines ++ part)

-- the bytes are empty lines, lines with content, an empty line, and more
pub record HasMessage (sent : List ℕ) : Type 0 where
  pub empties : List (List ℕ)
  pub lines : List (List ℕ)
  pub last : List ℕ
  pub more : List ℕ
  pub each_empty : All IsEmptyLine empties
  pub each_full : All HasContent lines
  pub some : 0 < length lines
  pub is_empty : IsEmptyLine last
  pub whole : sent ≡ lines_text empties ++ (lines_text lines ++ (last ++ 10 ∷ more))

-- a stream of these bytes is in this state
abbrev pub HasSent : List ℕ → FirstMessageSoFar → Type 0
HasSent sent (Awaited line) = IsAwaited sent line
HasSent sent (Begun line) = IsBegun sent line
HasSent sent Ended = HasMessage sent
