-- The first thing in held bytes.
use Rattle.std.specs.Prelude.{◌≡◌, ◌<◌, ◌≤◌, ℕ, List, ◌∷◌, ◌++◌, length, take, drop, All}
use Rattle.ami_text.specs.declared.found.Found.{Found}
use Rattle.ami_text.specs.declared.found.Found.TheVariants.{Message, Rest, Fault}
use Rattle.ami_text.specs.declared.progress.Progress.{Progress}
use Rattle.ami_text.specs.Lines.{IsEmptyLine, lines_text}
use Rattle.ami_text.specs.Progress.{IsProgress}
use Rattle.ami_text.specs.Stream.{Begins, HasFault, IsRest}

-- a message's lines, with the empty ones before it, lie before `end`; its last line ends before
-- `next`
pub record EndsMessage (held : List ℕ) (end next : ℕ) : Type 0 where
  pub lines : List (List ℕ)
  pub last : List ℕ
  pub begins : Begins held lines (last ++ 10 ∷ drop next held)
  pub some : 0 < length lines
  pub is_empty : IsEmptyLine last
  pub front : take end held ≡ lines_text begins.empties ++ lines_text lines
  pub end_within : end ≤ length held
  pub next_within : next ≤ length held

-- after `empty` bytes of empty lines there is no whole message and no fault, and all of it was
-- scanned
pub record EndsInRest (held : List ℕ) (empty : ℕ) (progress : Progress) : Type 0 where
  pub empties : List (List ℕ)
  pub each_empty : All IsEmptyLine empties
  pub whole : held ≡ lines_text empties ++ drop empty held
  pub empty_within : empty ≤ length held
  pub is_rest : IsRest (drop empty held)
  pub reached : IsProgress (drop empty held) progress

-- what holds of the held bytes, by the thing that was found
abbrev pub IsFound : List ℕ → Found → Type 0
IsFound held (Message end next) = EndsMessage held end next
IsFound held (Rest empty progress) = EndsInRest held empty progress
IsFound held (Fault fault) = HasFault fault held
