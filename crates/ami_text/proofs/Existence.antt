-- Each stream has an outcome.
use Rattle.std.proofs.Common.{◌≡◌, ◌≢◌, ◌<◌, ◌≤◌, ◌==◌, ◌⊎◌, ℕ, zero, suc, Bool, true, false, cond, List, [], ◌∷◌, ◌++◌, length, refl, sym, ◌∙◌, ap, arith, All, append_assoc, length-append, inl, inr, ⊎_elim}
use Rattle.std.proofs.lemmas.Bool.{cases_eq, cases_lt, eqb-false}
use Rattle.std.proofs.lemmas.List.{append-nil}
use Rattle.std.proofs.lemmas.List.Elements.{All-cons, All-head, All-nil, All-push, All-tail}
use Rattle.ami_text.specs.declared.feed_fault.FeedFault.{FeedFault}
use Rattle.ami_text.specs.declared.feed_fault.FeedFault.TheVariants.{LineTooLong, TooManyFields}
use Rattle.ami_text.specs.MessageFields.{NameAndValue, fields_of}
use Rattle.ami_text.specs.Lines.{HasNoLf, content, IsEmptyLine, IsFullLine, lines_text}
use Rattle.ami_text.specs.Stream.{FirstMessage, Gives, HasFault, IsRest, Ending, Rest, Fault, Reads}
use Rattle.ami_text.proofs.Outcome.{last_part, no_line, rebuilt}
use Rattle.ami_text.proofs.Outcomes.{gives_none}
use Rattle.ami_text.proofs.Scanning.{lines_text_push}
use Rattle.ami_text.proofs.WholeLines.{onto, whole_lines}

no_lf_onto : (b : ℕ) (lines : List (List ℕ)) → b ≢ 10 → All HasNoLf lines → All HasNoLf (onto b lines)
no_lf_onto b [] other each = each
no_lf_onto b (line ∷ lines) other each =
    All-cons HasNoLf (b ∷ line) lines (All-cons (λ x. x ≢ 10) b line other (All-head HasNoLf line lines each)) (All-tail HasNoLf line lines each)

no_lf_lines_more : (b : ℕ) (is : Bool) (lines : List (List ℕ)) → (b == 10) ≡ is → All HasNoLf lines → All HasNoLf (cond is ([] ∷ lines) (onto b lines))
no_lf_lines_more b true lines test each = All-cons HasNoLf [] lines (All-nil (λ x. x ≢ 10)) each
no_lf_lines_more b false lines test each = no_lf_onto b lines (eqb-false b 10 test) each

no_lf_lines : (bytes : List ℕ) → All HasNoLf (whole_lines bytes)
no_lf_lines [] = All-nil HasNoLf
no_lf_lines (b ∷ bytes) = no_lf_lines_more b (b == 10) (whole_lines bytes) refl (no_lf_lines bytes)

no_lf_last_more : (b : ℕ) (is none : Bool) (last : List ℕ) → (b == 10) ≡ is → HasNoLf last → HasNoLf (cond is last (cond none (b ∷ last) last))
no_lf_last_more b true none last test each = each
no_lf_last_more b false true last test each = All-cons (λ x. x ≢ 10) b last (eqb-false b 10 test) each
no_lf_last_more b false false last test each = each

no_lf_last : (bytes : List ℕ) → HasNoLf (last_part bytes)
no_lf_last [] = All-nil (λ x. x ≢ 10)
no_lf_last (b ∷ bytes) = no_lf_last_more b (b == 10) (no_line (whole_lines bytes)) (last_part bytes) refl (no_lf_last bytes)

-- a message, a rest or a fault
abbrev pub Shows : List ℕ → Type 0
Shows bytes =
    ((message : List NameAndValue) × (rest : List ℕ) × FirstMessage bytes message rest)
    ⊎ (((rest : List ℕ) × Gives bytes [] rest × IsRest rest)
    ⊎ ((fault : FeedFault) × HasFault fault bytes))

next_line : (line last : List ℕ) (lines : List (List ℕ)) → lines_text (line ∷ lines) ++ last ≡ line ++ 10 ∷ (lines_text lines ++ last)
next_line line last lines =
    append_assoc (line ++ 10 ∷ []) (lines_text lines) last ∙ append_assoc line (10 ∷ []) (lines_text lines ++ last)

shows_rest : (empties seen : List (List ℕ)) (last bytes : List ℕ) → All IsEmptyLine empties → All IsFullLine seen → length seen ≤ 128 → HasNoLf last
    → bytes ≡ lines_text empties ++ (lines_text seen ++ last) → Shows bytes
shows_rest empties seen last bytes each_empty each_full within no_lf whole =
    ⊎_elim
    (λ (long : 1024 < length (content last)). inr (inr (
      LineTooLong,
      record {
        lines = seen;
        part = last;
        more = [];
        no_lf = no_lf;
        too_long = long;
        begins = record {
          empties = empties;
          each_empty = each_empty;
          each_full = each_full;
          within = within;
          whole = whole ∙ ap (λ ys. lines_text empties ++ (lines_text seen ++ ys)) (sym (append-nil last));
        };
      },
    )))
    (λ (fits : length (content last) ≤ 1024). inr (inl (
      lines_text seen ++ last,
      (empties, each_empty, whole),
      record {
        lines = seen;
        part = last;
        each_full = each_full;
        within = within;
        no_lf = no_lf;
        fits = fits;
        whole = refl;
      },
    )))
    (cases_lt 1024 (length (content last)))

-- by one line after another
shows : (lines empties seen : List (List ℕ)) (last bytes : List ℕ) → All IsEmptyLine empties → All IsFullLine seen → length seen ≤ 128
    → All HasNoLf lines → HasNoLf last → bytes ≡ lines_text empties ++ (lines_text seen ++ (lines_text lines ++ last)) → Shows bytes
shows [] empties seen last bytes each_empty each_full within no_lf no_lf_last whole =
    shows_rest empties seen last bytes each_empty each_full within no_lf_last whole
shows (line ∷ lines) empties [] last bytes each_empty each_full within no_lf no_lf_last whole =
    let here = All-head HasNoLf line lines no_lf in
    let later = All-tail HasNoLf line lines no_lf in
    let at : bytes ≡ lines_text empties ++ (line ++ 10 ∷ (lines_text lines ++ last)) = whole ∙ ap (λ ys. lines_text empties ++ ys) (next_line line last lines) in
    ⊎_elim
    (λ (long : 1024 < length (content line)). inr (inr (
      LineTooLong,
      record {
        lines = [];
        part = line;
        more = 10 ∷ (lines_text lines ++ last);
        no_lf = here;
        too_long = long;
        begins = record { empties = empties; each_empty = each_empty; each_full = each_full; within = within; whole = at };
      },
    )))
    (λ (fits : length (content line) ≤ 1024). ⊎_elim
    (λ (none : length (content line) ≡ 0).
    shows lines (empties ++ line ∷ []) [] last bytes
    (All-push IsEmptyLine empties line each_empty (record { no_lf = here; empty = none })) each_full within later no_lf_last
    (at ∙ sym (lines_text_push empties line (lines_text lines ++ last))))
    (λ (some : length (content line) ≡ 0 → ⊥).
    shows lines empties (line ∷ []) last bytes each_empty
    (All-cons IsFullLine line [] (record { no_lf = here; some = omega (arith, some); fits = fits }) each_full) (omega arith) later no_lf_last
    (at ∙ ap (λ ys. lines_text empties ++ ys) (sym (next_line line (lines_text lines ++ last) []))))
    (cases_eq (length (content line)) 0))
    (cases_lt 1024 (length (content line)))
shows (line ∷ lines) empties (first ∷ seen) last bytes each_empty each_full within no_lf no_lf_last whole =
    let here = All-head HasNoLf line lines no_lf in
    let later = All-tail HasNoLf line lines no_lf in
    let at : bytes ≡ lines_text empties ++ (lines_text (first ∷ seen) ++ (line ++ 10 ∷ (lines_text lines ++ last))) =
    whole ∙ ap (λ ys. lines_text empties ++ (lines_text (first ∷ seen) ++ ys)) (next_line line last lines) in
    ⊎_elim
    (λ (long : 1024 < length (content line)). inr (inr (
      LineTooLong,
      record {
        lines = first ∷ seen;
        part = line;
        more = 10 ∷ (lines_text lines ++ last);
        no_lf = here;
        too_long = long;
        begins = record { empties = empties; each_empty = each_empty; each_full = each_full; within = within; whole = at };
      },
    )))
    (λ (fits : length (content line) ≤ 1024). ⊎_elim
    (λ (none : length (content line) ≡ 0). inl (
      fields_of (first ∷ seen),
      lines_text lines ++ last,
      record {
        lines = first ∷ seen;
        last = line;
        some = omega arith;
        is_empty = record { no_lf = here; empty = none };
        fields = refl;
        begins = record { empties = empties; each_empty = each_empty; each_full = each_full; within = within; whole = at };
      },
    ))
    (λ (some : length (content line) ≡ 0 → ⊥).
    let full : IsFullLine line = record { no_lf = here; some = omega (arith, some); fits = fits } in
    ⊎_elim
    (λ (few : length (first ∷ seen) < 128).
    shows lines empties ((first ∷ seen) ++ line ∷ []) last bytes each_empty
    (All-push IsFullLine (first ∷ seen) line each_full full)
    (omega (arith, few, length-append (first ∷ seen) (line ∷ []))) later no_lf_last
    (at ∙ ap (λ ys. lines_text empties ++ ys) (sym (lines_text_push (first ∷ seen) line (lines_text lines ++ last)))))
    (λ (many : 128 ≤ length (first ∷ seen)). inr (inr (
      TooManyFields,
      record {
        lines = first ∷ seen;
        line = line;
        more = lines_text lines ++ last;
        all = omega (arith, many, within);
        is_full = full;
        begins = record { empties = empties; each_empty = each_empty; each_full = each_full; within = within; whole = at };
      },
    )))
    (cases_lt (length (first ∷ seen)) 128))
    (cases_eq (length (content line)) 0))
    (cases_lt 1024 (length (content line)))

pub shows_first : (bytes : List ℕ) → Shows bytes
shows_first bytes =
    shows (whole_lines bytes) [] [] (last_part bytes) bytes (All-nil IsEmptyLine) (All-nil IsFullLine) (omega arith) (no_lf_lines bytes) (no_lf_last bytes)
    (sym (rebuilt bytes))

reads_cons : (bytes after : List ℕ) (message : List NameAndValue) (messages : List (List NameAndValue)) (ending : Ending) → FirstMessage bytes message after
    → Reads after messages ending → Reads bytes (message ∷ messages) ending
reads_cons bytes after message messages (Rest rest) first r = ((after, first, r.0), r.1)
reads_cons bytes after message messages (Fault fault) first r = (r.0, (after, first, r.1), r.2)

-- what follows a message is shorter
pub rest_shorter : (bytes rest : List ℕ) (message : List NameAndValue) → FirstMessage bytes message rest → length rest < length bytes
rest_shorter bytes rest message m =
    omega (
      arith,
      ap length m.begins.whole,
      length-append (lines_text m.begins.empties) (lines_text m.lines ++ (m.last ++ 10 ∷ rest)),
      length-append (lines_text m.lines) (m.last ++ 10 ∷ rest),
      length-append m.last (10 ∷ rest),
    )

reads_within : (n : ℕ) (bytes : List ℕ) → length bytes ≤ n → (messages : List (List NameAndValue)) × (ending : Ending) × Reads bytes messages ending
reads_within zero bytes le =
    ⊎_elim
    (λ (m : (message : List NameAndValue) × (rest : List ℕ) × FirstMessage bytes message rest). absurd (omega (arith, le, rest_shorter bytes m.1 m.0 m.2)))
    (λ (other : ((rest : List ℕ) × Gives bytes [] rest × IsRest rest) ⊎ ((fault : FeedFault) × HasFault fault bytes)). ⊎_elim
    (λ (r : (rest : List ℕ) × Gives bytes [] rest × IsRest rest). ([], Rest r.0, (r.1, r.2)))
    (λ (f : (fault : FeedFault) × HasFault fault bytes). ([], Fault f.0, (bytes, gives_none bytes, f.1)))
    other)
    (shows_first bytes)
reads_within (suc n) bytes le =
    ⊎_elim
    (λ (m : (message : List NameAndValue) × (rest : List ℕ) × FirstMessage bytes message rest).
    let later = reads_within n m.1 (omega (arith, le, rest_shorter bytes m.1 m.0 m.2)) in
    (m.0 ∷ later.0, later.1, reads_cons bytes m.1 m.0 later.0 later.1 m.2 later.2))
    (λ (other : ((rest : List ℕ) × Gives bytes [] rest × IsRest rest) ⊎ ((fault : FeedFault) × HasFault fault bytes)). ⊎_elim
    (λ (r : (rest : List ℕ) × Gives bytes [] rest × IsRest rest). ([], Rest r.0, (r.1, r.2)))
    (λ (f : (fault : FeedFault) × HasFault fault bytes). ([], Fault f.0, (bytes, gives_none bytes, f.1)))
    other)
    (shows_first bytes)

-- a list of messages, and then a rest or a fault
pub outcome : (bytes : List ℕ) → (messages : List (List NameAndValue)) × (ending : Ending) × Reads bytes messages ending
outcome bytes = reads_within (length bytes) bytes (omega arith)
