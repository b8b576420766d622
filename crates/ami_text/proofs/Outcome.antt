-- What stands first in bytes is one thing: a message and what follows it, a rest, or a fault.
use Rattle.std.proofs.Common.{◌≡◌, ◌≢◌, ◌<◌, ◌≤◌, ◌+◌, ◌-◌, ◌==◌, ℕ, Bool, true, false, cond, List, [], ◌∷◌, ◌++◌, length, take, drop, refl, sym, ◌∙◌, ap, arith, All, append_assoc, length-append, nat_lt, nat_le, slice_index}
use Rattle.std.proofs.lemmas.Bool.{ne_eqb, eqb-true, cond_both, le-ltb, lt-ltb, le-leb, lt-leb}
use Rattle.std.proofs.lemmas.List.{append-nil, length-take-le}
use Rattle.std.proofs.lemmas.List.Elements.{All-head, All-tail, All-weaker}
use Rattle.ami_text.specs.declared.feed_fault.FeedFault.{FeedFault}
use Rattle.ami_text.specs.declared.feed_fault.FeedFault.TheVariants.{LineTooLong, TooManyFields, Memory}
use Rattle.ami_text.specs.MessageFields.{NameAndValue, fields_of}
use Rattle.ami_text.specs.Found.{EndsMessage}
use Rattle.ami_text.specs.Lines.{HasNoLf, content, IsEmptyLine, IsFullLine, lines_text}
use Rattle.ami_text.specs.Stream.{Begins, FirstMessage, HasFault, IsRest}
use Rattle.ami_text.proofs.WholeLines.{onto, whole_lines, whole_lines_line, whole_lines_part, whole_lines_lines_text}

-- whether there is no line
abbrev pub no_line : List (List ℕ) → Bool
no_line [] = true
no_line (line ∷ lines) = false

-- what follows the last LF
abbrev pub last_part : List ℕ → List ℕ
last_part [] = []
last_part (b ∷ bytes) = cond (b == 10) (last_part bytes) (cond (no_line (whole_lines bytes)) (b ∷ last_part bytes) (last_part bytes))

pub last_part_line : (line rest : List ℕ) → HasNoLf line → last_part (line ++ 10 ∷ rest) ≡ last_part rest
last_part_line [] rest none = refl
last_part_line (b ∷ line) rest none =
    let other : (b == 10) ≡ false = ne_eqb b 10 (All-head (λ x. x ≢ 10) b line none) in
    let tail = All-tail (λ x. x ≢ 10) b line none in
    rw (other, whole_lines_line line rest tail) (last_part_line line rest tail)

pub last_part_part : (part : List ℕ) → HasNoLf part → last_part part ≡ part
last_part_part [] none = refl
last_part_part (b ∷ part) none =
    let other : (b == 10) ≡ false = ne_eqb b 10 (All-head (λ x. x ≢ 10) b part none) in
    let tail = All-tail (λ x. x ≢ 10) b part none in
    rw (other, whole_lines_part part tail) (ap (λ ys. b ∷ ys) (last_part_part part tail))

pub last_part_lines_text : (lines : List (List ℕ)) (rest : List ℕ) → All HasNoLf lines → last_part (lines_text lines ++ rest) ≡ last_part rest
last_part_lines_text [] rest none = refl
last_part_lines_text (line ∷ lines) rest none =
    rw (append_assoc (line ++ 10 ∷ []) (lines_text lines) rest, append_assoc line (10 ∷ []) (lines_text lines ++ rest))
    (last_part_line line (lines_text lines ++ rest) (All-head HasNoLf line lines none)
    ∙ last_part_lines_text lines rest (All-tail HasNoLf line lines none))

rebuilt_more : (b : ℕ) (is : Bool) (lines : List (List ℕ)) (last bytes : List ℕ) → (b == 10) ≡ is → lines_text lines ++ last ≡ bytes
    → lines_text (cond is ([] ∷ lines) (onto b lines)) ++ cond is last (cond (no_line lines) (b ∷ last) last) ≡ b ∷ bytes
rebuilt_more b true lines last bytes test whole = rw (eqb-true b 10 test) (ap (λ ys. 10 ∷ ys) whole)
rebuilt_more b false [] last bytes test whole = ap (λ ys. b ∷ ys) whole
rebuilt_more b false (line ∷ lines) last bytes test whole = ap (λ ys. b ∷ ys) whole

-- bytes are their whole lines and what follows them
pub rebuilt : (bytes : List ℕ) → lines_text (whole_lines bytes) ++ last_part bytes ≡ bytes
rebuilt [] = refl
rebuilt (b ∷ bytes) = rebuilt_more b (b == 10) (whole_lines bytes) (last_part bytes) bytes refl (rebuilt bytes)

-- the lines with bytes put before the first
abbrev pub glued : List ℕ → List (List ℕ) → List (List ℕ)
glued part [] = []
glued part (line ∷ lines) = (part ++ line) ∷ lines

onto_glued : (b : ℕ) (part : List ℕ) (lines : List (List ℕ)) → onto b (glued part lines) ≡ glued (b ∷ part) lines
onto_glued b part [] = refl
onto_glued b part (line ∷ lines) = refl

glued_nil : (lines : List (List ℕ)) → lines ≡ glued [] lines
glued_nil [] = refl
glued_nil (line ∷ lines) = refl

-- the whole lines of bytes without LF and more
pub whole_lines_glued : (part more : List ℕ) → HasNoLf part → whole_lines (part ++ more) ≡ glued part (whole_lines more)
whole_lines_glued [] more none = glued_nil (whole_lines more)
whole_lines_glued (b ∷ part) more none =
    let other : (b == 10) ≡ false = ne_eqb b 10 (All-head (λ x. x ≢ 10) b part none) in
    rw (other, whole_lines_glued part more (All-tail (λ x. x ≢ 10) b part none)) (onto_glued b part (whole_lines more))

no_line_glued : (part : List ℕ) (lines : List (List ℕ)) → no_line (glued part lines) ≡ no_line lines
no_line_glued part [] = refl
no_line_glued part (line ∷ lines) = refl

-- what follows their last LF, where there is none
pub last_part_glued : (part more : List ℕ) → HasNoLf part → whole_lines more ≡ [] → last_part (part ++ more) ≡ part ++ last_part more
last_part_glued [] more none nil = refl
last_part_glued (b ∷ part) more none nil =
    let other : (b == 10) ≡ false = ne_eqb b 10 (All-head (λ x. x ≢ 10) b part none) in
    let tail = All-tail (λ x. x ≢ 10) b part none in
    rw (other, whole_lines_glued part more tail, nil) (ap (λ ys. b ∷ ys) (last_part_glued part more tail nil))

-- a content is its line, or one byte shorter
pub content_bounds : (line : List ℕ) → (length (content line) ≤ length line) × (length line ≤ length (content line) + 1)
content_bounds line =
    let P : List ℕ → Type 0 = λ ys. (length ys ≤ length line) × (length line ≤ length ys + 1) in
    let le : length line - 1 ≤ length line = omega arith in
    cond_both (slice_index line (length line - 1) == 13) (take (length line - 1) line) line P
    (λ _. (omega (arith, length-take-le (length line - 1) line le), omega (arith, length-take-le (length line - 1) line le)))
    (λ _. (omega arith, omega arith))

-- a line that is too long stays so
pub too_long_more : (part more : List ℕ) → 1024 < length (content part) → 1024 < length (content (part ++ more))
too_long_more part [] long = rw (append-nil part) long
too_long_more part (b ∷ more) long =
    let p = content_bounds part in
    let q = content_bounds (part ++ b ∷ more) in
    omega (arith, long, p.0, q.1, length-append part (b ∷ more))

-- what stands first
pub data Outcome : Type 0 where
  Whole : (message : List NameAndValue) (rest : List ℕ) → Outcome
  Partial : (rest : List ℕ) → Outcome
  Bad : (fault : FeedFault) → Outcome

-- after the lines of a message that were seen, by the whole lines and the part that follow
abbrev pub walk : List (List ℕ) → List (List ℕ) → List ℕ → Outcome
walk seen [] last = cond (nat_le (length (content last)) 1024) (Partial (lines_text seen ++ last)) (Bad LineTooLong)
walk seen (line ∷ lines) last =
    cond (nat_lt 1024 (length (content line))) (Bad LineTooLong)
    (cond (length (content line) == 0)
    (cond (length seen == 0) (walk seen lines last) (Whole (fields_of seen) (lines_text lines ++ last)))
    (cond (nat_lt (length seen) 128) (walk (seen ++ line ∷ []) lines last) (Bad TooManyFields)))

-- of bytes
abbrev pub first_of : List ℕ → Outcome
first_of bytes = walk [] (whole_lines bytes) (last_part bytes)

pub walk_empties : (empties lines : List (List ℕ)) (last : List ℕ) → All IsEmptyLine empties → walk [] (empties ++ lines) last ≡ walk [] lines last
walk_empties [] lines last each = refl
walk_empties (line ∷ empties) lines last each =
    let none : length (content line) ≡ 0 = (All-head IsEmptyLine line empties each).empty in
    rw none (walk_empties empties lines last (All-tail IsEmptyLine line empties each))

pub walk_full : (seen lines : List (List ℕ)) (line last : List ℕ) → IsFullLine line → length seen < 128
    → walk seen (line ∷ lines) last ≡ walk (seen ++ line ∷ []) lines last
walk_full seen lines line last full lt =
    let fits : nat_lt 1024 (length (content line)) ≡ false = le-ltb 1024 (length (content line)) full.fits in
    let some : (length (content line) == 0) ≡ false = ne_eqb (length (content line)) 0 (λ e. absurd (omega (arith, e, full.some))) in
    let few : nat_lt (length seen) 128 ≡ true = lt-ltb (length seen) 128 lt in
    rw (fits, some, few) refl

pub walk_fulls : (seen fulls lines : List (List ℕ)) (last : List ℕ) → All IsFullLine fulls → length seen + length fulls ≤ 128
    → walk seen (fulls ++ lines) last ≡ walk (seen ++ fulls) lines last
walk_fulls seen [] lines last each within = ap (λ ls. walk ls lines last) (sym (append-nil seen))
walk_fulls seen (line ∷ fulls) lines last each within =
    let lt : length seen < 128 = omega arith in
    let more : length (seen ++ line ∷ []) + length fulls ≤ 128 = omega (arith, length-append seen (line ∷ [])) in
    walk_full seen (fulls ++ lines) line last (All-head IsFullLine line fulls each) lt
    ∙ walk_fulls (seen ++ line ∷ []) fulls lines last (All-tail IsFullLine line fulls each) more
    ∙ ap (λ ls. walk ls lines last) (append_assoc seen (line ∷ []) fulls)

-- after empty lines and lines of a message
pub first_of_begins : (bytes : List ℕ) (lines : List (List ℕ)) (more : List ℕ) → Begins bytes lines more
    → first_of bytes ≡ walk lines (whole_lines more) (last_part more)
first_of_begins bytes lines more b =
    let none_empty : All HasNoLf b.empties = All-weaker IsEmptyLine HasNoLf (λ l e. e.no_lf) b.empties b.each_empty in
    let none_full : All HasNoLf lines = All-weaker IsFullLine HasNoLf (λ l e. e.no_lf) lines b.each_full in
    let whole : whole_lines bytes ≡ b.empties ++ (lines ++ whole_lines more) =
    ap whole_lines b.whole ∙ whole_lines_lines_text b.empties (lines_text lines ++ more) none_empty
    ∙ ap (λ ls. b.empties ++ ls) (whole_lines_lines_text lines more none_full) in
    let last : last_part bytes ≡ last_part more =
    ap last_part b.whole ∙ last_part_lines_text b.empties (lines_text lines ++ more) none_empty ∙ last_part_lines_text lines more none_full in
    let within : 0 + length lines ≤ 128 = omega (arith, b.within) in
    rw (whole, last)
    (walk_empties b.empties (lines ++ whole_lines more) (last_part more) b.each_empty
    ∙ walk_fulls [] lines (whole_lines more) (last_part more) b.each_full within)

pub outcome_message : (bytes : List ℕ) (message : List NameAndValue) (rest : List ℕ) → FirstMessage bytes message rest → first_of bytes ≡ Whole message rest
outcome_message bytes message rest m =
    let none : length (content m.last) ≡ 0 = m.is_empty.empty in
    let some : (length m.lines == 0) ≡ false = ne_eqb (length m.lines) 0 (λ e. absurd (omega (arith, e, m.some))) in
    first_of_begins bytes m.lines (m.last ++ 10 ∷ rest) m.begins
    ∙ rw (whole_lines_line m.last rest m.is_empty.no_lf, last_part_line m.last rest m.is_empty.no_lf, none, some, rebuilt rest, m.fields) refl

pub outcome_rest : (bytes : List ℕ) (empties : List (List ℕ)) (rest : List ℕ) → All IsEmptyLine empties → bytes ≡ lines_text empties ++ rest → IsRest rest
    → first_of bytes ≡ Partial rest
outcome_rest bytes empties rest each is r =
    let fits : nat_le (length (content r.part)) 1024 ≡ true = le-leb (length (content r.part)) 1024 r.fits in
    first_of_begins bytes r.lines r.part (record {
      empties = empties;
      each_empty = each;
      each_full = r.each_full;
      within = r.within;
      whole = is ∙ ap (λ ys. lines_text empties ++ ys) r.whole;
    })
    ∙ rw (whole_lines_part r.part r.no_lf, last_part_part r.part r.no_lf, fits, r.whole) refl

walk_long : (seen : List (List ℕ)) (part more : List ℕ) (lines : List (List ℕ)) → whole_lines more ≡ lines → HasNoLf part → 1024 < length (content part)
    → walk seen (whole_lines (part ++ more)) (last_part (part ++ more)) ≡ Bad LineTooLong
walk_long seen part more [] is none long =
    let over : nat_le (length (content (part ++ last_part more))) 1024 ≡ false =
    lt-leb (length (content (part ++ last_part more))) 1024 (too_long_more part (last_part more) long) in
    rw (whole_lines_glued part more none, last_part_glued part more none is, is, over) refl
walk_long seen part more (line ∷ lines) is none long =
    let over : nat_lt 1024 (length (content (part ++ line))) ≡ true =
    lt-ltb 1024 (length (content (part ++ line))) (too_long_more part line long) in
    rw (whole_lines_glued part more none, is, over) refl

pub outcome_fault : (fault : FeedFault) (bytes : List ℕ) → HasFault fault bytes → first_of bytes ≡ Bad fault
outcome_fault LineTooLong bytes l =
    first_of_begins bytes l.lines (l.part ++ l.more) l.begins ∙ walk_long l.lines l.part l.more (whole_lines l.more) refl l.no_lf l.too_long
outcome_fault TooManyFields bytes l =
    let fits : nat_lt 1024 (length (content l.line)) ≡ false = le-ltb 1024 (length (content l.line)) l.is_full.fits in
    let some : (length (content l.line) == 0) ≡ false = ne_eqb (length (content l.line)) 0 (λ e. absurd (omega (arith, e, l.is_full.some))) in
    let many : nat_lt (length l.lines) 128 ≡ false = le-ltb (length l.lines) 128 (omega (arith, l.all)) in
    first_of_begins bytes l.lines (l.line ++ 10 ∷ l.more) l.begins
    ∙ rw (whole_lines_line l.line l.more l.is_full.no_lf, fits, some, many) refl
outcome_fault Memory bytes none = absurd none

-- the outcome of a message that a scan found
pub outcome_found : (held : List ℕ) (end next : ℕ) (f : EndsMessage held end next) → first_of held ≡ Whole (fields_of f.lines) (drop next held)
outcome_found held end next f = outcome_message held (fields_of f.lines) (drop next held) (record {
  lines = f.lines;
  last = f.last;
  begins = f.begins;
  some = f.some;
  is_empty = f.is_empty;
  fields = refl;
})
