-- What the search for a byte says of the list.
use Rattle.std.proofs.Common.{◌≡◌, ◌≢◌, ℕ, ◌+◌, ◌<◌, ◌≤◌, ◌-◌, Bool, true, false, List, ◌∷◌, ◌++◌, length, take, drop, get_or, refl, sym, ◌∙◌, ap, arith, Some, None}
use Rattle.std.specs.List.{list_any, position_or_len}
use Rattle.bstr.specs.Find.{Nowhere, NoneBefore, Passes, is_byte}
use Rattle.std.proofs.lemmas.Bool.{false_from_ne_true, eqb-true, eqb-false}
use Rattle.std.proofs.lemmas.List.{drop_more, take-append-drop, get_or-take, length-take-le, take_rest}
use Rattle.std.proofs.lemmas.List.Elements.{All-from_get_or}
use Rattle.std.proofs.lemmas.List.Folds.{list_any_none, list_any_at}
use Rattle.std.proofs.lemmas.List.Sums.{position_or_len_is}
use Rattle.ami_text.specs.MessageFields.{field_of, trim_of, is_colon}
use Rattle.ami_text.specs.Lines.{HasNoLf}
use Rattle.ami_text.proofs.WholeLines.{whole_lines, whole_lines_line}

-- a place below a first one fails
pub fails_before : (p : ℕ → Bool) (hay : List ℕ) (n : ℕ) → Nowhere (Passes p hay) 0 n → (k : ℕ) → k < n → p (get_or hay k 0) ≡ false
fails_before p hay n none k lt = false_from_ne_true (p (get_or hay k 0)) (none k (omega arith) lt)

-- without a colon there is no field
pub field_of_none : (text : List ℕ) → Nowhere (Passes (is_byte 58) text) 0 (length text) → field_of text ≡ None
field_of_none text none =
    let any : list_any is_colon text ≡ false =
    list_any_none is_colon text (All-from_get_or (λ x. is_colon x ≡ false) text 0 (fails_before is_colon text (length text) none)) in
    rw any refl

-- with one, what stands before and after the first
pub field_of_some : (text : List ℕ) (k : ℕ) → NoneBefore (Passes (is_byte 58) text) 0 (length text) k → Passes (is_byte 58) text k
    → field_of text ≡ Some (trim_of (take k text), trim_of (drop (k + 1) text))
field_of_some text k before here =
    let any : list_any is_colon text ≡ true = list_any_at is_colon text k 0 before.high here in
    let first : position_or_len is_colon text ≡ k =
    position_or_len_is is_colon text k 0 (omega (arith, before.high)) (fails_before is_colon text k before.before) (λ _. here) in
    rw (any, first) refl

-- no LF below a first one
pub HasNoLf_take : (hay : List ℕ) (n : ℕ) → n ≤ length hay → Nowhere (Passes (is_byte 10) hay) 0 n → HasNoLf (take n hay)
HasNoLf_take hay n within none = All-from_get_or (λ b. b ≢ 10) (take n hay) 0
    (λ k lt.
    let below : k < n = omega (arith, lt, length-take-le n hay within) in
    λ e. eqb-false (get_or hay k 0) 10 (fails_before (is_byte 10) hay n none k below) (sym (get_or-take n hay k 0 below) ∙ e))

-- none at all
pub HasNoLf_all : (hay : List ℕ) → Nowhere (Passes (is_byte 10) hay) 0 (length hay) → HasNoLf hay
HasNoLf_all hay none = All-from_get_or (λ b. b ≢ 10) hay 0
    (λ k lt e. eqb-false (get_or hay k 0) 10 (fails_before (is_byte 10) hay (length hay) none k lt) e)

-- the bytes around a LF
pub around_lf : (hay : List ℕ) (n : ℕ) → n < length hay → Passes (is_byte 10) hay n → hay ≡ take n hay ++ 10 ∷ drop (n + 1) hay
around_lf hay n lt here =
    let is : get_or hay n 0 ≡ 10 = eqb-true (get_or hay n 0) 10 here in
    sym (take-append-drop n hay) ∙ ap (λ ys. take n hay ++ ys) (drop_more hay n 0 lt ∙ ap (λ b. b ∷ drop (n + 1) hay) is)

-- a field of the two parts around a colon, where the second part is a part of the text
pub field_of_parts : (text : List ℕ) (k : ℕ) (name value : List ℕ) → NoneBefore (Passes (is_byte 58) text) 0 (length text) k × Passes (is_byte 58) text k
    → name ≡ trim_of (take k text) → value ≡ trim_of (take (length text - (k + 1)) (drop (k + 1) text))
    → Some (name, value) ≡ field_of text
field_of_parts text k name value found is_name is_value =
    let rest : value ≡ trim_of (drop (k + 1) text) = is_value ∙ ap trim_of (take_rest text (k + 1)) in
    rw (is_name, rest) (sym (field_of_some text k found.0 found.1))

-- the first line of bytes, found by its LF
pub whole_lines_found : (hay : List ℕ) (n : ℕ) → NoneBefore (Passes (is_byte 10) hay) 0 (length hay) n × Passes (is_byte 10) hay n
    → whole_lines hay ≡ take n hay ∷ whole_lines (drop (n + 1) hay)
whole_lines_found hay n found =
    let within : n ≤ length hay = omega (arith, found.0.high) in
    ap whole_lines (around_lf hay n found.0.high found.1)
    ∙ whole_lines_line (take n hay) (drop (n + 1) hay) (HasNoLf_take hay n within found.0.before)
