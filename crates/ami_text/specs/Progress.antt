-- How far a feed has scanned the bytes that it holds.
use Rattle.std.specs.Prelude.{◌≡◌, ◌≤◌, ◌+◌, ℕ, List, ◌++◌, length, All}
use Rattle.ami_text.specs.declared.progress.Progress.{Progress}
use Rattle.ami_text.specs.Lines.{HasNoLf, IsFullLine, lines_text}

-- whole lines of a message up to `line`, then bytes without LF up to `looked`, and then the
-- unscanned bytes
pub record IsProgress (held : List ℕ) (progress : Progress) : Type 0 where
  pub read : List (List ℕ)
  pub part : List ℕ
  pub ahead : List ℕ
  pub each_full : All IsFullLine read
  pub count : length read ≡ progress.lines
  pub within : progress.lines ≤ 128
  pub no_lf : HasNoLf part
  pub line_at : length (lines_text read) ≡ progress.line
  pub looked_at : progress.line + length part ≡ progress.looked
  pub whole : held ≡ lines_text read ++ (part ++ ahead)
