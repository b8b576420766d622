-- Bytes without the marks of a script: ends of lines, bars and blanks.
use Rattle.std.proofs.Common.{◌≡◌, ◌≢◌, ◌∙◌, ℕ, zero, suc, ◌+◌, ◌-◌, ◌*◌, ◌<◌, ◌≤◌, ◌==◌, ◌^◌, Bool, true, false, List, [], ◌∷◌, ◌++◌, length, get_or, decimal, refl, sym, ap, arith, append_assoc, append-nil, true≢false}
use Rattle.std.specs.Char.{is_ascii_digit}
use Rattle.std.specs.List.{AllByRecursion, list_all, list_any}
use Rattle.std.proofs.lemmas.Bool.{and_parts, eqb-true, ne_eqb, or_parts}
use Rattle.std.proofs.lemmas.Bool.Decides.{nat_tests}
use Rattle.std.proofs.lemmas.Fmt.{digits_decimal, digits_value-decimal}
use Rattle.std.proofs.lemmas.List.{length-append}
use Rattle.std.proofs.lemmas.List.Elements.{All-from_recursion}
use Rattle.std.proofs.lemmas.List.Folds.{list_any-append, list_any_at}
use Rattle.std.proofs.Math.Seq.{get_or-append_seam, take-append_seam}
use Rattle.ami_text.specs.Lines.{HasNoLf, content}
use Rattle.ami_text.specs.MessageFields.{is_blank}
use Rattle.ami_text.specs.Numbers.{number_of, read_on}
use Rattle.ami_text.proofs.Digits.{own_digits}
use Rattle.dots.specs.Values.{is_bad_byte}
use Rattle.script_lines.specs.ScriptLines.{is_bar, lines_after, lines_of}

-- ---- tests over bytes

-- a test that isn't true is false
pub is_false : (b : Bool) → (b ≡ true → ⊥) → b ≡ false
is_false true h = absurd (h refl)
is_false false h = refl

-- no byte of two lists passes a test where none of each does
pub none_of_both : (p : ℕ → Bool) (xs ys : List ℕ) → list_any p xs ≡ false → list_any p ys ≡ false → list_any p (xs ++ ys) ≡ false
none_of_both p xs ys a b = rw (list_any-append p xs ys, a, b) refl

-- ---- ends of lines

-- a byte that ends no line isn't LF
no_lf : (b : ℕ) → is_bad_byte b ≡ false → b ≢ 10
no_lf b h e = true≢false (ap is_bad_byte (sym e) ∙ h)

lf_recursion : (bytes : List ℕ) → list_any is_bad_byte bytes ≡ false → AllByRecursion (λ b. b ≢ 10) bytes
lf_recursion [] h = tt
lf_recursion (b ∷ bytes) h = let parts = or_parts _ _ h in (no_lf b parts.0, lf_recursion bytes parts.1)

-- clean bytes have no LF
pub clean_lf : (bytes : List ℕ) → list_any is_bad_byte bytes ≡ false → HasNoLf bytes
clean_lf bytes h = All-from_recursion (λ b. b ≢ 10) bytes (lf_recursion bytes h)

-- clean bytes with CR behind them have no LF
pub cr_lf : (bytes : List ℕ) → list_any is_bad_byte bytes ≡ false → HasNoLf (bytes ++ 13 ∷ [])
cr_lf bytes h = All-from_recursion (λ b. b ≢ 10) (bytes ++ 13 ∷ []) (go bytes h)
  where
    go : (bytes : List ℕ) → list_any is_bad_byte bytes ≡ false → AllByRecursion (λ b. b ≢ 10) (bytes ++ 13 ∷ [])
    go [] h = ((λ e. true≢false (sym (ap (λ n. n == 10) e))), tt)
    go (b ∷ bytes) h = let parts = or_parts _ _ h in (no_lf b parts.0, go bytes parts.1)

-- the content of a line that ends in CR
pub content_cr : (bytes : List ℕ) → content (bytes ++ 13 ∷ []) ≡ bytes
content_cr bytes =
    let last : length (bytes ++ 13 ∷ []) - 1 ≡ length bytes = (let l = length-append bytes (13 ∷ []) in omega (arith, l)) in
    rw (last, get_or-append_seam bytes 13 [] 0, take-append_seam bytes (13 ∷ [])) refl

-- the content of a clean line is the line
pub content_clean : (bytes : List ℕ) → list_any is_bad_byte bytes ≡ false → content bytes ≡ bytes
content_clean [] h = refl
content_clean (b ∷ bytes) h =
    let n = length (b ∷ bytes) - 1 in
    let other : (get_or (b ∷ bytes) n 0 == 13) ≡ false =
    is_false _ (λ e. true≢false (sym (list_any_at is_bad_byte (b ∷ bytes) n 0 (omega arith) (ap is_bad_byte (eqb-true _ 13 e))) ∙ h)) in
    rw other refl

-- the lines of bytes that begin with a clean line
pub first_line : (front line rest : List ℕ) → list_any is_bad_byte line ≡ false → lines_after front (line ++ 10 ∷ rest) ≡ content (front ++ line) ∷ lines_of rest
first_line front [] rest h = ap (λ l. content l ∷ lines_of rest) (sym (append-nil front))
first_line front (b ∷ line) rest h =
    let parts = or_parts _ _ h in
    let other : (b == 10) ≡ false = ne_eqb b 10 (no_lf b parts.0) in
    rw other (first_line (front ++ b ∷ []) line rest parts.1 ∙ ap (λ l. content l ∷ lines_of rest) (append_assoc front (b ∷ []) line))

-- ---- numbers

-- digits pass no test that no digit passes
pub none_of_digits : (p : ℕ → Bool) → ((d : ℕ) → is_ascii_digit d ≡ true → p d ≡ false) → (ds : List ℕ) → list_all is_ascii_digit ds ≡ true → list_any p ds ≡ false
none_of_digits p other [] h = refl
none_of_digits p other (d ∷ ds) h = let parts = and_parts _ _ h in rw (other d parts.0, none_of_digits p other ds parts.1) refl

-- a number is spelled in digits
pub are_digits : (n : ℕ) → n < 2 ^ 64 → list_all is_ascii_digit (decimal n) ≡ true
are_digits n h = digits_decimal own_digits n h

-- they spell it
pub spells : (n : ℕ) → n < 2 ^ 64 → number_of (decimal n) ≡ n
spells n h = digits_value-decimal own_digits n h

pub digits_clean : (ds : List ℕ) → list_all is_ascii_digit ds ≡ true → list_any is_bad_byte ds ≡ false
digits_clean = none_of_digits is_bad_byte (λ d h. grind (arith, nat_tests))

pub digits_bars : (ds : List ℕ) → list_all is_ascii_digit ds ≡ true → list_any is_bar ds ≡ false
digits_bars = none_of_digits is_bar (λ d h. grind (arith, nat_tests))

pub digit_blank : (d : ℕ) → is_ascii_digit d ≡ true → is_blank d ≡ false
digit_blank d h = grind (arith, nat_tests)

-- a bound, ten times greater for each digit
abbrev pub scaled : ℕ → ℕ → ℕ
scaled zero bound = bound
scaled (suc k) bound = scaled k (bound * 10)

-- many digits behind a number make it great
pub grows : (k bound n : ℕ) (ds : List ℕ) → bound ≤ n → k ≤ length ds → scaled k bound ≤ read_on n ds
grows zero bound n [] le few = le
grows (suc k) bound n [] le few = absurd (omega (arith, few))
grows zero bound n (d ∷ ds) le few = grows zero bound (n * 10 + (d - 48)) ds (omega (arith, le)) (omega arith)
grows (suc k) bound n (d ∷ ds) le few = grows k (bound * 10) (n * 10 + (d - 48)) ds (omega (arith, le)) (omega (arith, few))
