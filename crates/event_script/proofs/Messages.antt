-- Lines between bars are one message.
use Rattle.std.proofs.Common.{◌≡◌, ◌∙◌, ℕ, suc, ◌<◌, ◌≤◌, false, List, [], ◌∷◌, ◌++◌, length, map, Some, codes, refl, sym, ap, subst, arith, append_assoc, append-nil}
use Rattle.std.specs.List.{AllByRecursion, flat_map, list_any}
use Rattle.std.proofs.lemmas.List.Elements.{All-from_recursion}
use Rattle.std.proofs.lemmas.Bool.{or_parts}
use Rattle.ami_text.specs.Lines.{IsEmptyLine, IsFullLine, lines_text}
use Rattle.ami_text.specs.MessageFields.{NameAndValue, field_of, fields_of}
use Rattle.ami_text.specs.Stream.{FirstMessage, IsRest}
use Rattle.dots.specs.Values.{is_bad_byte}
use Rattle.script_lines.specs.ScriptLines.{IsMessage, is_bar, stream_of}
use Rattle.event_script.proofs.Marks.{clean_lf, content_cr, cr_lf}

-- a line of a message that has a field, and can stand between bars
pub record IsFieldLine (line : List ℕ) (field : NameAndValue) : Type 0 where
  pub field_is : field_of line ≡ Some field
  pub bars : list_any is_bar line ≡ false
  pub clean : list_any is_bad_byte line ≡ false
  pub some : 0 < length line
  pub fits : length line ≤ 1024

-- lines have these fields, one each
abbrev pub HaveFields : List (List ℕ) → List NameAndValue → Type 0
HaveFields [] [] = Unit {0}
HaveFields (line ∷ lines) (field ∷ fields) = IsFieldLine line field × HaveFields lines fields
HaveFields lines fields = ⊥

-- a line with CR behind it
abbrev pub ended : List ℕ → List ℕ
ended line = line ++ 13 ∷ []

-- lines with bars between them
abbrev pub joined : List ℕ → List (List ℕ) → List ℕ
joined line lines = line ++ flat_map (λ l. codes "|" ++ l) lines

-- a line without a bar stays as it is
stream_over : (line rest : List ℕ) → list_any is_bar line ≡ false → stream_of (line ++ rest) ≡ line ++ stream_of rest
stream_over [] rest h = refl
stream_over (b ∷ line) rest h = let parts = or_parts (is_bar b) (list_any is_bar line) h in rw parts.0 (ap (λ t. b ∷ t) (stream_over line rest parts.1))

-- CR and LF stand behind a line
cr_and_lf : (line more : List ℕ) → line ++ (codes "\r\n" ++ more) ≡ (ended line ++ 10 ∷ []) ++ more
cr_and_lf line more = sym (append_assoc (ended line) (10 ∷ []) more ∙ append_assoc line (13 ∷ []) (10 ∷ more))

-- the stream of lines
stream_lines : (line : List ℕ) (lines : List (List ℕ)) (field : NameAndValue) (fields : List NameAndValue) → HaveFields (line ∷ lines) (field ∷ fields)
    → stream_of (joined line lines) ≡ lines_text (map ended (line ∷ lines)) ++ codes "\r\n"
stream_lines line [] field fields h =
    ap stream_of (append-nil line) ∙ ap stream_of (sym (append-nil line)) ∙ stream_over line [] h.0.bars ∙ cr_and_lf line (codes "\r\n")
    ∙ ap (λ t. t ++ codes "\r\n") (sym (append-nil (ended line ++ 10 ∷ [])))
stream_lines line (next ∷ lines) field [] h = absurd h.1
stream_lines line (next ∷ lines) field (other ∷ fields) h =
    stream_over line (codes "|" ++ joined next lines) h.0.bars ∙ cr_and_lf line (stream_of (joined next lines))
    ∙ ap (λ t. (ended line ++ 10 ∷ []) ++ t) (stream_lines next lines other fields h.1)
    ∙ sym (append_assoc (ended line ++ 10 ∷ []) (lines_text (map ended (next ∷ lines))) (codes "\r\n"))

-- each line is full
full : (lines : List (List ℕ)) (fields : List NameAndValue) → HaveFields lines fields → AllByRecursion IsFullLine (map ended lines)
full [] fields h = tt
full (line ∷ lines) [] h = absurd h
full (line ∷ lines) (field ∷ fields) h = (
  record {
    no_lf = cr_lf line h.0.clean;
    some = subst (λ c. 0 < length c) (sym (content_cr line)) h.0.some;
    fits = subst (λ c. length c ≤ 1024) (sym (content_cr line)) h.0.fits;
  },
  full lines fields h.1,
)

-- they have these fields
fields_are : (lines : List (List ℕ)) (fields : List NameAndValue) → HaveFields lines fields → fields_of (map ended lines) ≡ fields
fields_are [] [] h = refl
fields_are [] (field ∷ fields) h = absurd h
fields_are (line ∷ lines) [] h = absurd h
fields_are (line ∷ lines) (field ∷ fields) h = rw (content_cr line, h.0.field_is) (ap (λ fs. field ∷ fs) (fields_are lines fields h.1))

as_many : (lines : List (List ℕ)) → length (map ended lines) ≡ length lines
as_many [] = refl
as_many (line ∷ lines) = ap suc (as_many lines)

-- lines between bars are the message of their fields
pub message_is : (line : List ℕ) (lines : List (List ℕ)) (field : NameAndValue) (fields : List NameAndValue) → HaveFields (line ∷ lines) (field ∷ fields) → length lines < 128
    → IsMessage (joined line lines) (field ∷ fields)
message_is line lines field fields h few =
    let first : FirstMessage (stream_of (joined line lines)) (field ∷ fields) [] = record {
      lines = map ended (line ∷ lines);
      last = 13 ∷ [];
      begins = record {
        empties = [];
        each_empty = All-from_recursion IsEmptyLine [] tt;
        each_full = All-from_recursion IsFullLine (map ended (line ∷ lines)) (full (line ∷ lines) (field ∷ fields) h);
        within = (let n = as_many lines in omega (arith, n, few));
        whole = stream_lines line lines field fields h;
      };
      some = omega arith;
      is_empty = record { no_lf = cr_lf [] refl; empty = refl };
      fields = sym (fields_are (line ∷ lines) (field ∷ fields) h);
    } in
    let rest : IsRest [] = record {
      lines = [];
      part = [];
      each_full = All-from_recursion IsFullLine [] tt;
      within = omega arith;
      no_lf = clean_lf [] refl;
      fits = omega arith;
      whole = refl;
    } in
    ([], (([], first, ([], All-from_recursion IsEmptyLine [] tt, refl)), rest))
