-- The lines of a heading are comments.
use Rattle.std.proofs.Common.{◌≡◌, inl, inr, ℕ, zero, suc, ◌<◌, ◌/◌, ◌%◌, ◌^◌, ◌&&◌, ◌++◌, Bool, true, false, not, List, [], ◌∷◌, length, slice_index, codes, decimal, refl, arith}
use Rattle.std.specs.Char.{is_ascii_digit}
use Rattle.std.specs.List.{list_all, list_any}
use Rattle.std.proofs.lemmas.Bool.{and_parts, cases_lt}
use Rattle.std.proofs.lemmas.Bool.Decides.{nat_tests}
use Rattle.std.proofs.lemmas.Fmt.{digits_decimal}
use Rattle.std.proofs.lemmas.List.Folds.{list_any-append}
use Rattle.ami_text.proofs.Digits.{own_digits}
use Rattle.dots.specs.Values.{IsName, is_bad_byte}
use Rattle.event_script.specs.Comments.{IsComment}
use Rattle.hex.specs.Hex.{IsBytes, encode_lower, encode_with, lower_digits}
use Rattle.store_audit.specs.declared.store_journal.StoreJournal.{StoreJournal}
use Rattle.store_audit.specs.Headings.{numbers_text, queue_line, sites_line, store_line}
use Rattle.store_audit.specs.Stores.{site_number}

-- no byte of two lists passes a test where none of each does
none_of_both : (p : ℕ → Bool) (xs ys : List ℕ) → list_any p xs ≡ false → list_any p ys ≡ false → list_any p (xs ++ ys) ≡ false
none_of_both p xs ys a b = rw (list_any-append p xs ys, a, b) refl

clean_both : (xs ys : List ℕ) → list_any is_bad_byte xs ≡ false → list_any is_bad_byte ys ≡ false → list_any is_bad_byte (xs ++ ys) ≡ false
clean_both = none_of_both is_bad_byte

-- a digit ends no line
digit_clean : (d : ℕ) → is_ascii_digit d ≡ true → is_bad_byte d ≡ false
digit_clean d h = grind (arith, nat_tests)

none_of_digits : (p : ℕ → Bool) → ((d : ℕ) → is_ascii_digit d ≡ true → p d ≡ false) → (ds : List ℕ) → list_all is_ascii_digit ds ≡ true → list_any p ds ≡ false
none_of_digits p other [] h = refl
none_of_digits p other (d ∷ ds) h = let parts = and_parts _ _ h in rw (other d parts.0, none_of_digits p other ds parts.1) refl

-- a number is clean
number_clean : (n : ℕ) → n < 2 ^ 64 → list_any is_bad_byte (decimal n) ≡ false
number_clean n fits = none_of_digits is_bad_byte digit_clean (decimal n) (digits_decimal own_digits n fits)

-- ---- hexadecimal

-- the first digits of a table end no line
abbrev are_clean : ℕ → Bool
are_clean zero = true
are_clean (suc n) = not (is_bad_byte (slice_index lower_digits n)) && are_clean n

not_true : (b : Bool) → not b ≡ true → b ≡ false
not_true true h = (cc)
not_true false h = refl

clean_at : (n k : ℕ) → are_clean n ≡ true → k < n → is_bad_byte (slice_index lower_digits k) ≡ false
clean_at zero k h lt = absurd (omega arith)
clean_at (suc n) k h lt =
    let parts = and_parts (not (is_bad_byte (slice_index lower_digits n))) (are_clean n) h in
    elim (cases_lt k n) [
      | inl below ↦ clean_at n k parts.1 below
      | inr top ↦
          let e : k ≡ n = omega arith in
          rw e (not_true (is_bad_byte (slice_index lower_digits n)) parts.0)
    ]

none_of_hex : (p : ℕ → Bool) → ((d : ℕ) → d < 16 → p (slice_index lower_digits d) ≡ false) → (bytes : List ℕ) → IsBytes bytes → list_any p (encode_lower bytes) ≡ false
unfolding encode_with
none_of_hex p other [] h = refl
none_of_hex p other (b ∷ bytes) h =
    let fits : b < 256 = h 0 in
    let high : b / 16 < 16 = omega arith in
    let low : b % 16 < 16 = omega arith in
    rw (other (b / 16) high, other (b % 16) low, none_of_hex p other bytes (λ k. h (suc k))) refl

pub hex_clean : (bytes : List ℕ) → IsBytes bytes → list_any is_bad_byte (encode_lower bytes) ≡ false
hex_clean = none_of_hex is_bad_byte (λ d lt. clean_at 16 d refl lt)

-- ---- lines

pub sites_comment : (sites : ℕ) → sites < 2 ^ 64 → IsComment (sites_line sites)
sites_comment sites fits = record {
  rest = codes " sites: " ++ decimal sites;
  mark = refl;
  clean = clean_both (codes "# sites: ") (decimal sites) refl (number_clean sites fits);
}

pub queue_comment : (name : List ℕ) → IsName name → IsComment (queue_line name)
queue_comment name is = record {
  rest = codes " queue: " ++ name;
  mark = refl;
  clean = clean_both (codes "# queue: ") name refl is.text.clean;
}

pub numbers_clean : (starts steps : ℕ) → starts < 2 ^ 64 → steps < 2 ^ 64 → list_any is_bad_byte (numbers_text starts steps) ≡ false
numbers_clean starts steps a b =
    clean_both (codes ", starts: ") (decimal starts ++ (codes ", steps: " ++ decimal steps)) refl
    (clean_both (decimal starts) (codes ", steps: " ++ decimal steps) (number_clean starts a)
    (clean_both (codes ", steps: ") (decimal steps) refl (number_clean steps b)))

pub store_comment : (store : StoreJournal) → site_number store < 2 ^ 64 → list_any is_bad_byte (encode_lower store.name) ≡ false
    → list_any is_bad_byte (numbers_text store.starts (length store.journal.steps)) ≡ false → IsComment (store_line store)
store_comment store site name counted =
    let hex = encode_lower store.name in
    let numbers = numbers_text store.starts (length store.journal.steps) in
    record {
      rest = codes " site " ++ (decimal (site_number store) ++ (codes ": store " ++ (hex ++ numbers)));
      mark = refl;
      clean = clean_both (codes "# site ") (decimal (site_number store) ++ (codes ": store " ++ (hex ++ numbers))) refl
          (clean_both (decimal (site_number store)) (codes ": store " ++ (hex ++ numbers)) (number_clean (site_number store) site)
          (clean_both (codes ": store ") (hex ++ numbers) refl
          (clean_both hex numbers name counted)));
    }
