-- One line after another, from where the bytes were looked at the last time.
use Rattle.std.proofs.Common.{◌≡◌, ◌≢◌, ◌<◌, ◌≤◌, ◌+◌, ◌-◌, ℕ, List, [], ◌∷◌, ◌++◌, length, take, drop, refl, sym, ◌∙◌, ap, subst, arith, All, append_assoc, length-append, ◌⊎◌, ⊎_elim}
use Rattle.bstr.specs.Find.{Nowhere, NoneBefore, Passes, is_byte}
use Rattle.std.proofs.lemmas.List.{append-nil, take_at, drop_at, length-drop, length-take-le, length_push, nil_from_length, take_rest}
use Rattle.std.proofs.lemmas.List.Concat.{flat_map-append}
use Rattle.std.proofs.lemmas.List.Elements.{All-append, All-push, All-nil}
use Rattle.ami_text.specs.declared.line_kind.LineKind.{LineKind}
use Rattle.ami_text.specs.declared.line_kind.LineKind.TheVariants.{Empty, Full, TooLong}
use Rattle.ami_text.specs.LineKind.{HasKind}
use Rattle.ami_text.specs.declared.progress.Progress.{Progress}
use Rattle.ami_text.specs.Found.{EndsMessage, EndsInRest}
use Rattle.ami_text.specs.Lines.{HasNoLf, content, IsEmptyLine, IsFullLine, lines_text}
use Rattle.ami_text.specs.Progress.{IsProgress}
use Rattle.ami_text.specs.Stream.{ShowsLongLine, EndsTooManyLines}
use Rattle.ami_text.proofs.ByteSearch.{HasNoLf_take, HasNoLf_all, around_lf}

-- empty lines up to `empty`, lines of a message up to `line`, bytes without LF up to `looked`, and then what lies ahead
pub record Scanned (held : List ℕ) (empty line lines looked : ℕ) : Type 0 where
  pub empties : List (List ℕ)
  pub read : List (List ℕ)
  pub part : List ℕ
  pub ahead : List ℕ
  pub each_empty : All IsEmptyLine empties
  pub each_full : All IsFullLine read
  pub count : length read ≡ lines
  pub within : lines ≤ 128
  pub no_lf : HasNoLf part
  pub empty_at : length (lines_text empties) ≡ empty
  pub line_at : empty + length (lines_text read) ≡ line
  pub looked_at : line + length part ≡ looked
  pub whole : held ≡ lines_text empties ++ (lines_text read ++ (part ++ ahead))

-- the progress of a scan where the next line's LF is at `end`
pub record LineFound (held : List ℕ) (empty line lines end : ℕ) : Type 0 where
  pub empties : List (List ℕ)
  pub read : List (List ℕ)
  pub text : List ℕ
  pub after : List ℕ
  pub each_empty : All IsEmptyLine empties
  pub each_full : All IsFullLine read
  pub count : length read ≡ lines
  pub within : lines ≤ 128
  pub no_lf : HasNoLf text
  pub empty_at : length (lines_text empties) ≡ empty
  pub line_at : empty + length (lines_text read) ≡ line
  pub end_at : line + length text ≡ end
  pub whole : held ≡ lines_text empties ++ (lines_text read ++ (text ++ 10 ∷ after))

-- where the last look stopped
pub scanned_start : (held : List ℕ) (progress : Progress) → IsProgress held progress → Scanned held 0 progress.line progress.lines progress.looked
scanned_start held progress r = record {
  empties = [];
  read = r.read;
  part = r.part;
  ahead = r.ahead;
  each_empty = All-nil IsEmptyLine;
  each_full = r.each_full;
  count = r.count;
  within = r.within;
  no_lf = r.no_lf;
  empty_at = refl;
  line_at = omega (arith, r.line_at);
  looked_at = r.looked_at;
  whole = r.whole;
}

-- the part of a list behind three others
pub drop_parts : (a b c d : List ℕ) (n : ℕ) → length a + length b + length c ≡ n → drop n (a ++ (b ++ (c ++ d))) ≡ d
drop_parts a b c d n e =
    rw (← append_assoc b c d, ← append_assoc a (b ++ c) d)
    (drop_at (a ++ (b ++ c)) d n (omega (arith, length-append a (b ++ c), length-append b c, e)))

-- what lies ahead
pub ahead_is : (held : List ℕ) (empty line lines looked : ℕ) (s : Scanned held empty line lines looked) → drop looked held ≡ s.ahead
ahead_is held empty line lines looked s =
    rw s.whole (drop_parts (lines_text s.empties) (lines_text s.read) s.part s.ahead looked (omega (arith, s.empty_at, s.line_at, s.looked_at)))

-- the bounds of the places
pub scanned_bounds : (held : List ℕ) (empty line lines looked : ℕ) → Scanned held empty line lines looked
    → (empty ≤ line) × (line ≤ looked) × (looked ≤ length held)
scanned_bounds held empty line lines looked s =
    let e = ap length s.whole in
    let f = length-append (lines_text s.empties) (lines_text s.read ++ (s.part ++ s.ahead)) in
    let g = length-append (lines_text s.read) (s.part ++ s.ahead) in
    let h = length-append s.part s.ahead in
    (omega (arith, s.line_at), omega (arith, s.looked_at), omega (arith, e, f, g, h, s.empty_at, s.line_at, s.looked_at))

-- the bytes of lines and one more
pub lines_text_push : (lines : List (List ℕ)) (line after : List ℕ) → lines_text (lines ++ line ∷ []) ++ after ≡ lines_text lines ++ (line ++ 10 ∷ after)
lines_text_push lines line after =
    ap (λ ys. ys ++ after) (flat_map-append (λ l. l ++ 10 ∷ []) lines (line ∷ []))
    ∙ append_assoc (lines_text lines) ((line ++ 10 ∷ []) ++ []) after
    ∙ ap (λ ys. lines_text lines ++ ys) (ap (λ ys. ys ++ after) (append-nil (line ++ 10 ∷ [])) ∙ append_assoc line (10 ∷ []) after)

-- how many they are
pub length_lines_text_push : (lines : List (List ℕ)) (line : List ℕ) → length (lines_text (lines ++ line ∷ [])) ≡ length (lines_text lines) + (length line + 1)
length_lines_text_push lines line =
    let e = ap length (sym (append-nil (lines_text (lines ++ line ∷ []))) ∙ lines_text_push lines line []) in
    omega (arith, e, length-append (lines_text lines) (line ++ 10 ∷ []), length-append line (10 ∷ []))

-- the next LF
pub line_found : (held : List ℕ) (empty line lines looked n : ℕ) → Scanned held empty line lines looked
    → NoneBefore (Passes (is_byte 10) (take (length held - looked) (drop looked held))) 0 (length (take (length held - looked) (drop looked held))) n
    × Passes (is_byte 10) (take (length held - looked) (drop looked held)) n
    → LineFound held empty line lines (looked + n)
line_found held empty line lines looked n s found =
    let is : take (length held - looked) (drop looked held) ≡ s.ahead = take_rest held looked ∙ ahead_is held empty line lines looked s in
    let P : List ℕ → Type 0 = λ ys. NoneBefore (Passes (is_byte 10) ys) 0 (length ys) n × Passes (is_byte 10) ys n in
    let at : P s.ahead = subst P is found in
    let within : n ≤ length s.ahead = omega (arith, at.0.high) in
    record {
      empties = s.empties;
      read = s.read;
      text = s.part ++ take n s.ahead;
      after = drop (n + 1) s.ahead;
      each_empty = s.each_empty;
      each_full = s.each_full;
      count = s.count;
      within = s.within;
      no_lf = All-append (λ b. b ≢ 10) s.part (take n s.ahead) s.no_lf (HasNoLf_take s.ahead n within at.0.before);
      empty_at = s.empty_at;
      line_at = s.line_at;
      end_at = omega (arith, s.looked_at, length-append s.part (take n s.ahead), length-take-le n s.ahead within);
      whole = s.whole ∙ ap (λ ys. lines_text s.empties ++ (lines_text s.read ++ ys))
          (ap (λ ys. s.part ++ ys) (around_lf s.ahead n at.0.high at.1) ∙ sym (append_assoc s.part (take n s.ahead) (10 ∷ drop (n + 1) s.ahead)));
    }

-- the line's bytes are a part of what is held
pub text_is : (held : List ℕ) (empty line lines end : ℕ) (f : LineFound held empty line lines end) → take (end - line) (drop line held) ≡ f.text
text_is held empty line lines end f =
    let here : drop line held ≡ f.text ++ 10 ∷ f.after =
    rw f.whole (drop_parts (lines_text f.empties) (lines_text f.read) [] (f.text ++ 10 ∷ f.after) line (omega (arith, f.empty_at, f.line_at))) in
    rw here (take_at f.text (10 ∷ f.after) (end - line) (omega (arith, f.end_at)))

-- what follows the line
pub after_is : (held : List ℕ) (empty line lines end : ℕ) (f : LineFound held empty line lines end) → drop (end + 1) held ≡ f.after
after_is held empty line lines end f =
    rw (f.whole, ← append_assoc f.text (10 ∷ []) f.after)
    (drop_parts (lines_text f.empties) (lines_text f.read) (f.text ++ 10 ∷ []) f.after (end + 1)
    (omega (arith, f.empty_at, f.line_at, f.end_at, length-append f.text (10 ∷ []))))

-- the bounds of its places
pub found_bounds : (held : List ℕ) (empty line lines end : ℕ) → LineFound held empty line lines end → (line ≤ end) × (end + 1 ≤ length held)
found_bounds held empty line lines end f =
    let e = ap length f.whole in
    let g = length-append (lines_text f.empties) (lines_text f.read ++ (f.text ++ 10 ∷ f.after)) in
    let h = length-append (lines_text f.read) (f.text ++ 10 ∷ f.after) in
    let i = length-append f.text (10 ∷ f.after) in
    (omega (arith, f.end_at), omega (arith, e, g, h, i, f.empty_at, f.line_at, f.end_at))

-- one more line of the message
pub next_full : (held : List ℕ) (empty line lines end : ℕ) (f : LineFound held empty line lines end) → IsFullLine f.text → lines < 128
    → Scanned held empty (end + 1) (lines + 1) (end + 1)
next_full held empty line lines end f full lt = record {
  empties = f.empties;
  read = f.read ++ f.text ∷ [];
  part = [];
  ahead = f.after;
  each_empty = f.each_empty;
  each_full = All-push IsFullLine f.read f.text f.each_full full;
  count = omega (arith, f.count, length_push f.read f.text);
  within = omega (arith, lt);
  no_lf = All-nil (λ b. b ≢ 10);
  empty_at = f.empty_at;
  line_at = omega (arith, f.line_at, f.end_at, length_lines_text_push f.read f.text);
  looked_at = omega arith;
  whole = f.whole ∙ ap (λ ys. lines_text f.empties ++ ys) (sym (lines_text_push f.read f.text f.after));
}

-- one more empty line before a message
pub next_empty : (held : List ℕ) (empty line lines end : ℕ) (f : LineFound held empty line lines end) → IsEmptyLine f.text → lines ≡ 0
    → Scanned held (end + 1) (end + 1) lines (end + 1)
next_empty held empty line lines end f is_empty none =
    let nil : f.read ≡ [] = nil_from_length f.read (f.count ∙ none) in
    let none_read : length (lines_text f.read) ≡ 0 = ap (λ ls. length (lines_text ls)) nil in
    record {
      empties = f.empties ++ f.text ∷ [];
      read = [];
      part = [];
      ahead = f.after;
      each_empty = All-push IsEmptyLine f.empties f.text f.each_empty is_empty;
      each_full = All-nil IsFullLine;
      count = sym none;
      within = f.within;
      no_lf = All-nil (λ b. b ≢ 10);
      empty_at = omega (arith, f.empty_at, f.line_at, f.end_at, none_read, length_lines_text_push f.empties f.text);
      line_at = omega arith;
      looked_at = omega arith;
      whole = f.whole ∙ ap (λ ls. lines_text f.empties ++ (lines_text ls ++ (f.text ++ 10 ∷ f.after))) nil ∙ sym (lines_text_push f.empties f.text f.after);
    }

-- the empty line that ends a message
pub ends_message : (held : List ℕ) (empty line lines end : ℕ) (f : LineFound held empty line lines end) → IsEmptyLine f.text → 0 < lines
    → EndsMessage held line (end + 1)
ends_message held empty line lines end f is_empty some =
    let b = found_bounds held empty line lines end f in
    record {
      lines = f.read;
      last = f.text;
      begins = record {
        empties = f.empties;
        each_empty = f.each_empty;
        each_full = f.each_full;
        within = rw f.count f.within;
        whole = f.whole ∙ ap (λ ys. lines_text f.empties ++ (lines_text f.read ++ (f.text ++ 10 ∷ ys))) (sym (after_is held empty line lines end f));
      };
      some = rw f.count some;
      is_empty = is_empty;
      front = ap (take line) (f.whole ∙ sym (append_assoc (lines_text f.empties) (lines_text f.read) (f.text ++ 10 ∷ f.after)))
          ∙ take_at (lines_text f.empties ++ lines_text f.read) (f.text ++ 10 ∷ f.after) line
          (omega (arith, length-append (lines_text f.empties) (lines_text f.read), f.empty_at, f.line_at));
      end_within = omega (arith, b.0, b.1);
      next_within = b.1;
    }

-- a line too many
pub ends_too_many : (held : List ℕ) (empty line lines end : ℕ) (f : LineFound held empty line lines end) → IsFullLine f.text → 128 ≤ lines
    → EndsTooManyLines held
ends_too_many held empty line lines end f full all = record {
  lines = f.read;
  line = f.text;
  more = f.after;
  begins = record { empties = f.empties; each_empty = f.each_empty; each_full = f.each_full; within = rw f.count f.within; whole = f.whole };
  all = omega (arith, f.count, f.within, all);
  is_full = full;
}

-- a line too long, with its end
pub ends_long : (held : List ℕ) (empty line lines end : ℕ) (f : LineFound held empty line lines end) → 1024 < length (content f.text) → ShowsLongLine held
ends_long held empty line lines end f long = record {
  lines = f.read;
  part = f.text;
  more = 10 ∷ f.after;
  begins = record { empties = f.empties; each_empty = f.each_empty; each_full = f.each_full; within = rw f.count f.within; whole = f.whole };
  no_lf = f.no_lf;
  too_long = long;
}

-- no LF lies ahead
pub no_lf_ahead : (held : List ℕ) (empty line lines looked : ℕ) (s : Scanned held empty line lines looked)
    → Nowhere (Passes (is_byte 10) (take (length held - looked) (drop looked held))) 0 (length (take (length held - looked) (drop looked held)))
    → HasNoLf (s.part ++ s.ahead)
no_lf_ahead held empty line lines looked s none =
    let is : take (length held - looked) (drop looked held) ≡ s.ahead = take_rest held looked ∙ ahead_is held empty line lines looked s in
    let P : List ℕ → Type 0 = λ ys. Nowhere (Passes (is_byte 10) ys) 0 (length ys) in
    All-append (λ b. b ≢ 10) s.part s.ahead s.no_lf (HasNoLf_all s.ahead (subst P is none))

-- the last part of what is held
pub part_is : (held : List ℕ) (empty line lines looked : ℕ) (s : Scanned held empty line lines looked)
    → take (length held - line) (drop line held) ≡ s.part ++ s.ahead
part_is held empty line lines looked s =
    take_rest held line ∙ rw s.whole (drop_parts (lines_text s.empties) (lines_text s.read) [] (s.part ++ s.ahead) line (omega (arith, s.empty_at, s.line_at)))

-- a line too long, without its end
pub shows_long : (held : List ℕ) (empty line lines looked : ℕ) (s : Scanned held empty line lines looked) → HasNoLf (s.part ++ s.ahead)
    → 1024 < length (content (s.part ++ s.ahead)) → ShowsLongLine held
shows_long held empty line lines looked s no_lf long = record {
  lines = s.read;
  part = s.part ++ s.ahead;
  more = [];
  begins = record {
    empties = s.empties;
    each_empty = s.each_empty;
    each_full = s.each_full;
    within = rw s.count s.within;
    whole = s.whole ∙ ap (λ ys. lines_text s.empties ++ (lines_text s.read ++ ys)) (sym (append-nil (s.part ++ s.ahead)));
  };
  no_lf = no_lf;
  too_long = long;
}

-- a rest
pub ends_in_rest : (held : List ℕ) (empty line lines looked : ℕ) (s : Scanned held empty line lines looked) → HasNoLf (s.part ++ s.ahead)
    → length (content (s.part ++ s.ahead)) ≤ 1024
    → EndsInRest held empty (record { line = line - empty; lines = lines; looked = length held - empty })
ends_in_rest held empty line lines looked s no_lf fits =
    let b = scanned_bounds held empty line lines looked s in
    let behind : drop empty held ≡ lines_text s.read ++ (s.part ++ s.ahead) =
    rw s.whole (drop_at (lines_text s.empties) (lines_text s.read ++ (s.part ++ s.ahead)) empty s.empty_at) in
    let count : length held - empty ≡ length (lines_text s.read) + length (s.part ++ s.ahead) =
    sym (length-drop empty held) ∙ ap length behind ∙ length-append (lines_text s.read) (s.part ++ s.ahead) in
    record {
      empties = s.empties;
      each_empty = s.each_empty;
      whole = s.whole ∙ ap (λ ys. lines_text s.empties ++ ys) (sym behind);
      empty_within = omega (arith, b.0, b.1, b.2);
      is_rest = record { lines = s.read; part = s.part ++ s.ahead; each_full = s.each_full; within = rw s.count s.within; no_lf = no_lf; fits = fits; whole = behind };
      reached = record {
        read = s.read;
        part = s.part ++ s.ahead;
        ahead = [];
        each_full = s.each_full;
        count = s.count;
        within = s.within;
        no_lf = no_lf;
        line_at = omega (arith, s.line_at);
        looked_at = omega (arith, s.line_at, count);
        whole = behind ∙ ap (λ ys. lines_text s.read ++ ys) (sym (append-nil (s.part ++ s.ahead)));
      };
    }

-- a line that is empty or full isn't too long
pub fits_either : (line : List ℕ) (kind : LineKind) → HasKind line kind → (kind ≡ Empty) ⊎ (kind ≡ Full) → length (content line) ≤ 1024
fits_either line Empty has either = omega (arith, has)
fits_either line Full has either = has.1
fits_either line TooLong has either = ⊎_elim (λ e. cc) (λ e. cc) either
