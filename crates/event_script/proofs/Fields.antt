-- A field that is written is read with the same value, and a number with the same digits.
use Rattle.std.proofs.Common.{◌≡◌, ◌∙◌, ℕ, zero, suc, ◌+◌, ◌*◌, ◌-◌, ◌<◌, ◌≤◌, ◌^◌, ◌&&◌, Bool, true, false, not, nat_lt, List, [], ◌∷◌, ◌++◌, length, reverse, get_or, slice_index, decimal, codes, Some, refl, sym, ap, subst, arith, true≢false}
use Rattle.std.specs.Char.{is_ascii_digit}
use Rattle.std.specs.List.{list_all, list_any}
use Rattle.std.proofs.lemmas.Bool.{and_parts, or_parts}
use Rattle.std.proofs.lemmas.Bool.Decides.{nat_tests}
use Rattle.std.proofs.lemmas.Fmt.{decimal_digit, decimal_nonempty, first_decimal}
use Rattle.std.proofs.lemmas.List.{get_or-reverse, length-append, reverse-reverse}
use Rattle.ami_text.specs.MessageFields.{field_of, is_blank, trim_of, trimmed_end, trimmed_front}
use Rattle.ami_text.specs.Numbers.{number_in, number_of}
use Rattle.dots.specs.Values.{is_bad_byte}
use Rattle.event_script.specs.Lines.{is_plain}
use Rattle.script_lines.specs.ScriptLines.{is_bar}
use Rattle.event_script.proofs.Marks.{are_digits, digit_blank, digits_bars, grows, none_of_both, none_of_digits, scaled, spells}
use Rattle.event_script.proofs.Messages.{IsFieldLine}

-- ---- plain texts

not_true : (b : Bool) → not b ≡ true → b ≡ false
not_true true h = absurd (true≢false (sym h))
not_true false h = refl

-- a plain text has no bar and no blank at its ends
record PlainParts (text : List ℕ) : Type 0 where
  bars : list_any is_bar text ≡ false
  first : is_blank (slice_index text 0) ≡ false
  last : is_blank (slice_index text (length text - 1)) ≡ false

plain_parts : (text : List ℕ) → is_plain text ≡ true → PlainParts text
plain_parts text h =
    let a = and_parts (not (list_any is_bar text)) (not (is_blank (slice_index text 0)) && not (is_blank (slice_index text (length text - 1)))) h in
    let b = and_parts (not (is_blank (slice_index text 0))) (not (is_blank (slice_index text (length text - 1)))) a.1 in
    record { bars = not_true _ a.0; first = not_true _ b.0; last = not_true _ b.1 }

-- bytes that begin with no blank stay
front_stays : (bytes : List ℕ) → is_blank (slice_index bytes 0) ≡ false → trimmed_front bytes ≡ bytes
front_stays [] h = refl
front_stays (b ∷ bytes) h = rw h refl

-- bytes that end in no blank stay
end_stays : (bytes : List ℕ) → is_blank (slice_index bytes (length bytes - 1)) ≡ false → trimmed_end bytes ≡ bytes
end_stays [] h = refl
end_stays (b ∷ bytes) h =
    let all = b ∷ bytes in
    let place : length all - 1 - 0 ≡ length all - 1 = omega arith in
    let at : get_or (reverse all) 0 0 ≡ get_or all (length all - 1) 0 = get_or-reverse all 0 0 (omega arith) ∙ ap (λ n. get_or all n 0) place in
    ap reverse (front_stays (reverse all) (ap is_blank at ∙ h)) ∙ reverse-reverse all

-- a plain text stays, and the blank before it goes
pub plain_stays : (text : List ℕ) → is_plain text ≡ true → trim_of (32 ∷ text) ≡ text
plain_stays text h = let p = plain_parts text h in ap trimmed_end (front_stays text p.first) ∙ end_stays text p.last

-- ---- fields

-- the name of a field: it ends at the first colon, and can stand between bars
pub record IsFieldName (name : List ℕ) : Type 0 where
  pub split : (value : List ℕ) → field_of (name ++ (codes ": " ++ value)) ≡ Some (name, trim_of (32 ∷ value))
  pub bars : list_any is_bar name ≡ false
  pub clean : list_any is_bad_byte name ≡ false
  pub short : length name ≤ 20

-- a name and a value are the line of a field
pub field_line : (name value : List ℕ) → IsFieldName name → is_plain value ≡ true → list_any is_bad_byte value ≡ false → length value ≤ 80
    → IsFieldLine (name ++ (codes ": " ++ value)) (name, value)
field_line name value is plain clean short =
    let n = length-append name (codes ": " ++ value) in
    record {
      field_is = is.split value ∙ ap (λ v. Some (name, v)) (plain_stays value plain);
      bars = none_of_both is_bar name (codes ": " ++ value) is.bars (plain_parts value plain).bars;
      clean = none_of_both is_bad_byte name (codes ": " ++ value) is.clean clean;
      some = omega (arith, n);
      fits = (let s = is.short in omega (arith, n, s, short));
    }

-- ---- numbers

none_at : (p : ℕ → Bool) (bytes : List ℕ) (i : ℕ) → p 0 ≡ false → list_any p bytes ≡ false → p (get_or bytes i 0) ≡ false
none_at p [] i none h = none
none_at p (b ∷ bytes) zero none h = (or_parts (p b) (list_any p bytes) h).0
none_at p (b ∷ bytes) (suc i) none h = none_at p bytes i none (or_parts (p b) (list_any p bytes) h).1

-- digits are plain
pub digits_plain : (ds : List ℕ) → list_all is_ascii_digit ds ≡ true → is_plain ds ≡ true
digits_plain ds h =
    let blanks = none_of_digits is_blank digit_blank ds h in
    rw (digits_bars ds h, none_at is_blank ds 0 refl blanks, none_at is_blank ds (length ds - 1) refl blanks) refl

-- digits that begin with none of 0 are few where their number is small
few_digits : (most : ℕ) (ds : List ℕ) → 48 < get_or ds 0 0 → number_of ds < scaled most 1 → length ds ≤ most
few_digits most [] first less = absurd (omega (arith, first))
few_digits most (d ∷ ds) first less = by (nat_lt (length ds) most) refl
  where
    by : (b : Bool) → nat_lt (length ds) most ≡ b → length (d ∷ ds) ≤ most
    by true h = grind (arith, nat_tests, h)
    by false h =
        let many : most ≤ length ds = grind (arith, nat_tests, h) in
        let great = grows most 1 (0 * 10 + (d - 48)) ds (omega (arith, first)) many in
        absurd (omega (arith, great, less))

-- a small number has few digits
pub digits_few : (most n : ℕ) → 0 < most → n < 2 ^ 64 → n < scaled most 1 → length (decimal n) ≤ most
digits_few most zero some fits less = rw (decimal_digit 0 (omega arith)) (omega (arith, some))
digits_few most (suc n) some fits less =
    few_digits most (decimal (suc n)) (first_decimal (suc n) (omega arith) fits) (subst (λ m. m < scaled most 1) (sym (spells (suc n) fits)) less)

-- digits are read as their number
read_digits : (most : ℕ) (ds : List ℕ) → 0 < length ds → list_all is_ascii_digit ds ≡ true → length ds ≤ most → number_in most ds ≡ Some (number_of ds)
read_digits most [] some digits few = absurd (omega (arith, some))
read_digits most (d ∷ ds) some digits few = let fits : nat_lt most (length (d ∷ ds)) ≡ false = grind (arith, nat_tests, few) in rw (fits, digits) refl

-- a number that is written is read
pub number_read : (most n : ℕ) → 0 < most → n < 2 ^ 64 → n < scaled most 1 → number_in most (decimal n) ≡ Some n
number_read most n some fits less =
    read_digits most (decimal n) (decimal_nonempty n fits) (are_digits n fits) (digits_few most n some fits less) ∙ ap Some (spells n fits)
