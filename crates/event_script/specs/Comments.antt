-- Lines of a script that give nothing.
use Rattle.std.specs.Prelude.{ℕ, ◌≡◌, ◌++◌, false, List, codes}
use Rattle.std.specs.List.{list_any}
use Rattle.dots.specs.Values.{is_bad_byte}

-- a line is a comment: it begins with `#`, and no byte of it is NUL, LF or CR
pub record IsComment (line : List ℕ) : Type 0 where
  pub rest : List ℕ
  pub mark : line ≡ codes "#" ++ rest
  pub clean : list_any is_bad_byte line ≡ false
