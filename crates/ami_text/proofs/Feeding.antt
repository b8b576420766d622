-- What a feed's calls make of the bytes that it holds.
use Rattle.std.proofs.Common.{◌≡◌, ◌≢◌, ℕ, List, [], ◌∷◌, ◌++◌, take, drop, refl, sym, ◌∙◌, ap, subst, arith, All, append_assoc, Result, Ok, Err, OnOk, OnErr}
use Rattle.std.proofs.lemmas.List.{nil_from_length}
use Rattle.std.proofs.lemmas.List.Concat.{flat_map-append}
use Rattle.std.proofs.lemmas.List.Elements.{All-append, All-head, All-nil, All-tail, All-weaker, filter_map-append}
use Rattle.ami_text.specs.declared.progress.Progress.{Progress}
use Rattle.ami_text.specs.MessageFields.{NameAndValue, field_of, fields_of}
use Rattle.ami_text.specs.Found.{EndsMessage, EndsInRest}
use Rattle.ami_text.specs.Lines.{HasNoLf, content, IsEmptyLine, IsFullLine, lines_text}
use Rattle.ami_text.specs.Progress.{IsProgress}
use Rattle.ami_text.specs.Stream.{FirstMessage, Gives}
use Rattle.ami_text.proofs.Outcome.{Whole, Partial, first_of, outcome_found, outcome_rest}

-- nothing was looked at
pub reached_start : (held : List ℕ) → IsProgress held (record { line = 0; lines = 0; looked = 0 })
reached_start held = record {
  read = [];
  part = [];
  ahead = held;
  each_full = All-nil IsFullLine;
  count = refl;
  within = omega arith;
  no_lf = All-nil (λ b. b ≢ 10);
  line_at = refl;
  looked_at = refl;
  whole = refl;
}

-- more bytes lie ahead
pub reached_more : (held piece : List ℕ) (progress : Progress) → IsProgress held progress → IsProgress (held ++ piece) progress
reached_more held piece progress r = record {
  read = r.read;
  part = r.part;
  ahead = r.ahead ++ piece;
  each_full = r.each_full;
  count = r.count;
  within = r.within;
  no_lf = r.no_lf;
  line_at = r.line_at;
  looked_at = r.looked_at;
  whole = ap (λ ys. ys ++ piece) r.whole ∙ append_assoc (lines_text r.read) (r.part ++ r.ahead) piece
      ∙ ap (λ ys. lines_text r.read ++ ys) (append_assoc r.part r.ahead piece);
}

-- more bytes lie ahead, where memory may have been refused
pub reached_fed : {T E : Type 0} (r : Result T E) (held piece new : List ℕ) (progress : Progress) → OnOk r (new ≡ held ++ piece) → OnErr r (new ≡ held)
    → IsProgress held progress → IsProgress new progress
reached_fed (Ok x) held piece new progress is same r = subst (λ ys. IsProgress ys progress) (sym is) (reached_more held piece progress r)
reached_fed (Err e) held piece new progress is same r = subst (λ ys. IsProgress ys progress) (sym same) r

-- empty lines are no fields
pub fields_of_empties : (empties : List (List ℕ)) → All IsEmptyLine empties → fields_of empties ≡ []
fields_of_empties [] each = refl
fields_of_empties (line ∷ lines) each =
    let nil : content line ≡ [] = nil_from_length (content line) (All-head IsEmptyLine line lines each).empty in
    rw (nil, fields_of_empties lines (All-tail IsEmptyLine line lines each)) refl

-- the message that was found, made of its lines
pub message_given : (held : List ℕ) (end next : ℕ) (message : List NameAndValue) → EndsMessage held end next
    → ((lines : List (List ℕ)) → All HasNoLf lines → take end held ≡ lines_text lines → message ≡ fields_of lines)
    → FirstMessage held message (drop next held)
message_given held end next message m parsed =
    let lines : take end held ≡ lines_text (m.begins.empties ++ m.lines) = m.front ∙ sym (flat_map-append (λ l. l ++ 10 ∷ []) m.begins.empties m.lines) in
    let no_lf = All-append HasNoLf m.begins.empties m.lines
    (All-weaker IsEmptyLine HasNoLf (λ l e. e.no_lf) m.begins.empties m.begins.each_empty)
    (All-weaker IsFullLine HasNoLf (λ l e. e.no_lf) m.lines m.begins.each_full) in
    record {
      lines = m.lines;
      last = m.last;
      begins = m.begins;
      some = m.some;
      is_empty = m.is_empty;
      fields = parsed (m.begins.empties ++ m.lines) no_lf lines
          ∙ filter_map-append (λ l. field_of (content l)) m.begins.empties m.lines
          ∙ ap (λ fs. fs ++ fields_of m.lines) (fields_of_empties m.begins.empties m.begins.each_empty);
    }

-- the rest that was found
pub rest_given : (held : List ℕ) (empty : ℕ) (progress : Progress) → EndsInRest held empty progress → Gives held [] (drop empty held)
rest_given held empty progress r = (r.empties, r.each_empty, r.whole)

-- what stands first, where a message was found
pub outcome_of_message : (held : List ℕ) (end next : ℕ) → EndsMessage held end next
    → (message : List NameAndValue) × (rest : List ℕ) × (first_of held ≡ Whole message rest)
outcome_of_message held end next m = (fields_of m.lines, drop next held, outcome_found held end next m)

-- a rest
pub outcome_of_rest : (held : List ℕ) (empty : ℕ) (progress : Progress) → EndsInRest held empty progress → first_of held ≡ Partial (drop empty held)
outcome_of_rest held empty progress r = outcome_rest held r.empties (drop empty held) r.each_empty r.whole r.is_rest
