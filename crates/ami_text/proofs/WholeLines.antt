-- Bytes cut into their whole lines.
use Rattle.std.proofs.Common.{◌≡◌, ◌≢◌, ℕ, ◌==◌, false, List, [], ◌∷◌, ◌++◌, refl, ◌∙◌, ap, All, append_assoc, cond}
use Rattle.std.proofs.lemmas.Bool.{ne_eqb}
use Rattle.std.proofs.lemmas.List.Elements.{All-head, All-tail}
use Rattle.ami_text.specs.Lines.{HasNoLf, lines_text}

-- the lines with a byte put before the first
abbrev pub onto : ℕ → List (List ℕ) → List (List ℕ)
onto b [] = []
onto b (line ∷ lines) = (b ∷ line) ∷ lines

-- the lines that LF ends, in order
abbrev pub whole_lines : List ℕ → List (List ℕ)
whole_lines [] = []
whole_lines (b ∷ bytes) = cond (b == 10) ([] ∷ whole_lines bytes) (onto b (whole_lines bytes))

-- a line, and then others
pub whole_lines_line : (line rest : List ℕ) → HasNoLf line → whole_lines (line ++ 10 ∷ rest) ≡ line ∷ whole_lines rest
whole_lines_line [] rest none = refl
whole_lines_line (b ∷ line) rest none =
    let other : (b == 10) ≡ false = ne_eqb b 10 (All-head (λ x. x ≢ 10) b line none) in
    rw (other, whole_lines_line line rest (All-tail (λ x. x ≢ 10) b line none)) refl

-- bytes without LF have no whole line
pub whole_lines_part : (part : List ℕ) → HasNoLf part → whole_lines part ≡ []
whole_lines_part [] none = refl
whole_lines_part (b ∷ part) none =
    let other : (b == 10) ≡ false = ne_eqb b 10 (All-head (λ x. x ≢ 10) b part none) in
    rw (other, whole_lines_part part (All-tail (λ x. x ≢ 10) b part none)) refl

-- lines, and then others
pub whole_lines_lines_text : (lines : List (List ℕ)) (rest : List ℕ) → All HasNoLf lines → whole_lines (lines_text lines ++ rest) ≡ lines ++ whole_lines rest
whole_lines_lines_text [] rest none = refl
whole_lines_lines_text (line ∷ lines) rest none =
    rw (append_assoc (line ++ 10 ∷ []) (lines_text lines) rest, append_assoc line (10 ∷ []) (lines_text lines ++ rest))
    (whole_lines_line line (lines_text lines ++ rest) (All-head HasNoLf line lines none)
    ∙ ap (λ ls. line ∷ ls) (whole_lines_lines_text lines rest (All-tail HasNoLf line lines none)))
