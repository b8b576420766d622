-- The Manager stream: the messages of bytes in order, and then a rest or a fault.
use Rattle.std.specs.Prelude.{◌≡◌, ◌<◌, ◌≤◌, ℕ, List, [], ◌∷◌, ◌++◌, length, All}
use Rattle.ami_text.specs.declared.feed_fault.FeedFault.{FeedFault}
use Rattle.ami_text.specs.declared.feed_fault.FeedFault.TheVariants.{LineTooLong, TooManyFields, Memory}
use Rattle.ami_text.specs.MessageFields.{NameAndValue, fields_of}
use Rattle.ami_text.specs.Lines.{HasNoLf, content, IsEmptyLine, IsFullLine, lines_text}

-- the bytes begin with empty lines, then have these lines of a message, at most 128, and then more
pub record Begins (bytes : List ℕ) (lines : List (List ℕ)) (more : List ℕ) : Type 0 where
  pub empties : List (List ℕ)
  pub each_empty : All IsEmptyLine empties
  pub each_full : All IsFullLine lines
  pub within : length lines ≤ 128
  pub whole : bytes ≡ lines_text empties ++ (lines_text lines ++ more)

-- the first message of the bytes: an empty line ends it, and the rest follows
pub record FirstMessage (bytes : List ℕ) (message : List NameAndValue) (rest : List ℕ) : Type 0 where
  pub lines : List (List ℕ)
  pub last : List ℕ
  pub begins : Begins bytes lines (last ++ 10 ∷ rest)
  pub some : 0 < length lines
  pub is_empty : IsEmptyLine last
  pub fields : message ≡ fields_of lines

-- no empty line in front, no whole message and no fault: lines, and then a part of one that isn't
-- too long yet
pub record IsRest (bytes : List ℕ) : Type 0 where
  pub lines : List (List ℕ)
  pub part : List ℕ
  pub each_full : All IsFullLine lines
  pub within : length lines ≤ 128
  pub no_lf : HasNoLf part
  pub fits : length (content part) ≤ 1024
  pub whole : bytes ≡ lines_text lines ++ part

-- the next line's content has more than 1,024 bytes, with or without the line's end
pub record ShowsLongLine (bytes : List ℕ) : Type 0 where
  pub lines : List (List ℕ)
  pub part : List ℕ
  pub more : List ℕ
  pub begins : Begins bytes lines (part ++ more)
  pub no_lf : HasNoLf part
  pub too_long : 1024 < length (content part)

-- after 128 lines of a message another one has ended
pub record EndsTooManyLines (bytes : List ℕ) : Type 0 where
  pub lines : List (List ℕ)
  pub line : List ℕ
  pub more : List ℕ
  pub begins : Begins bytes lines (line ++ 10 ∷ more)
  pub all : length lines ≡ 128
  pub is_full : IsFullLine line

-- the bytes show this fault before a whole message
abbrev pub HasFault : FeedFault → List ℕ → Type 0
HasFault LineTooLong bytes = ShowsLongLine bytes
HasFault TooManyFields bytes = EndsTooManyLines bytes
HasFault Memory bytes = ⊥

-- the bytes have these messages in order, and the rest follows; empty lines before it are ignored
abbrev pub Gives : List ℕ → List (List NameAndValue) → List ℕ → Type 0
Gives bytes [] rest =
    (empties : List (List ℕ)) × All IsEmptyLine empties × (bytes ≡ lines_text empties ++ rest)
Gives bytes (message ∷ messages) rest =
    (after : List ℕ) × FirstMessage bytes message after × Gives after messages rest

-- how a stream ends so far
pub data Ending : Type 0 where
  Rest : (bytes : List ℕ) → Ending
  Fault : (fault : FeedFault) → Ending

-- the stream has these messages, and then a rest or a fault
abbrev pub Reads : List ℕ → List (List NameAndValue) → Ending → Type 0
Reads bytes messages (Rest rest) = Gives bytes messages rest × IsRest rest
Reads bytes messages (Fault fault) = (rest : List ℕ) × Gives bytes messages rest × HasFault fault rest
