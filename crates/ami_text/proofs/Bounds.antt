-- How long a rest can be.
use Rattle.std.proofs.Common.{◌≤◌, ◌*◌, ℕ, List, [], ◌∷◌, ◌++◌, length, ap, arith, All, length-append}
use Rattle.std.proofs.lemmas.List.Elements.{All-head, All-tail}
use Rattle.ami_text.specs.Lines.{IsFullLine, lines_text}
use Rattle.ami_text.specs.Stream.{IsRest}
use Rattle.ami_text.proofs.Outcome.{content_bounds}

-- each line has at most 1,024 bytes, a CR and a LF
pub length_lines_text : (lines : List (List ℕ)) → All IsFullLine lines → length (lines_text lines) ≤ 1026 * length lines
length_lines_text [] each = omega arith
length_lines_text (line ∷ lines) each =
    omega (
      arith,
      length_lines_text lines (All-tail IsFullLine line lines each),
      (content_bounds line).1,
      (All-head IsFullLine line lines each).fits,
      length-append (line ++ 10 ∷ []) (lines_text lines),
      length-append line (10 ∷ []),
    )

-- 128 lines, and a part with at most 1,024 bytes and a CR
pub length_rest : (bytes : List ℕ) → IsRest bytes → length bytes ≤ 132353
length_rest bytes r =
    omega (
      arith,
      ap length r.whole,
      length-append (lines_text r.lines) r.part,
      length_lines_text r.lines r.each_full,
      r.within,
      (content_bounds r.part).1,
      r.fits,
    )
