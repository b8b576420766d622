-- The fields of bytes, line by line.
use Rattle.std.proofs.Common.{◌≡◌, ℕ, ◌+◌, ◌-◌, List, [], ◌∷◌, ◌++◌, length, take, drop, refl, sym, ◌∙◌, ap, All, append_assoc}
use Rattle.bstr.specs.Find.{Nowhere, NoneBefore, Passes, is_byte}
use Rattle.std.proofs.lemmas.List.{take_rest, append-nil}
use Rattle.std.proofs.lemmas.List.Elements.{filter_map-append}
use Rattle.ami_text.specs.MessageFields.{NameAndValue, field_of, fields_of}
use Rattle.ami_text.specs.Lines.{HasNoLf, content, lines_text}
use Rattle.ami_text.proofs.ByteSearch.{HasNoLf_all, whole_lines_found}
use Rattle.ami_text.proofs.WholeLines.{whole_lines, whole_lines_part, whole_lines_lines_text}

-- the fields of a line, then those of others
pub fields_of_cons : (line : List ℕ) (lines : List (List ℕ)) → fields_of (line ∷ lines) ≡ fields_of (line ∷ []) ++ fields_of lines
fields_of_cons line lines = filter_map-append (λ l. field_of (content l)) (line ∷ []) lines

-- one more line
pub parse_more : (bytes rest part : List ℕ) (n : ℕ) (fields more : List NameAndValue)
    → fields_of (whole_lines bytes) ≡ fields ++ fields_of (whole_lines rest)
    → NoneBefore (Passes (is_byte 10) rest) 0 (length rest) n × Passes (is_byte 10) rest n
    → part ≡ take (length rest - (n + 1)) (drop (n + 1) rest)
    → more ≡ fields ++ fields_of (take n rest ∷ [])
    → fields_of (whole_lines bytes) ≡ more ++ fields_of (whole_lines part)
parse_more bytes rest part n fields more before found is_part is_more =
    let after = drop (n + 1) rest in
    let at : part ≡ after = is_part ∙ take_rest rest (n + 1) in
    before ∙ ap (λ ls. fields ++ fields_of ls) (whole_lines_found rest n found)
    ∙ ap (λ fs. fields ++ fs) (fields_of_cons (take n rest) (whole_lines after))
    ∙ sym (append_assoc fields (fields_of (take n rest ∷ [])) (fields_of (whole_lines after)))
    ∙ rw (is_more, at) refl

-- no further line
pub parse_all : (bytes rest : List ℕ) (fields : List NameAndValue)
    → fields_of (whole_lines bytes) ≡ fields ++ fields_of (whole_lines rest)
    → Nowhere (Passes (is_byte 10) rest) 0 (length rest)
    → (lines : List (List ℕ)) → All HasNoLf lines → bytes ≡ lines_text lines → fields ≡ fields_of lines
parse_all bytes rest fields before none lines each is =
    let all : fields_of (whole_lines bytes) ≡ fields =
    before ∙ ap (λ ls. fields ++ fields_of ls) (whole_lines_part rest (HasNoLf_all rest none)) ∙ append-nil fields in
    let read : whole_lines bytes ≡ lines =
    ap whole_lines (is ∙ sym (append-nil (lines_text lines))) ∙ whole_lines_lines_text lines [] each ∙ append-nil lines in
    sym all ∙ ap fields_of read
