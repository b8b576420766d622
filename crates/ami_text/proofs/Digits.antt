-- Decimal digits: they are ASCII, and stand for a number, which is below 2^64 where they are nineteen at most.
use Rattle.std.proofs.Common.{◌≡◌, ◌==◌, ℕ, zero, suc, ◌+◌, ◌*◌, ◌-◌, ◌<◌, ◌≤◌, ◌^◌, true, false, nat_lt, List, [], ◌∷◌, length, slice_index, Option, Some, None, SomeIff, ap, arith, rules}
use Rattle.std.specs.Char.{is_ascii_digit}
use Rattle.std.specs.List.{list_all}
use Rattle.std.specs.Str.{IsUtf8}
use Rattle.std.proofs.lemmas.Str.{IsUtf8-from_ascii}
use Rattle.std.proofs.lemmas.Bool.Decides.{nat_tests}
use Rattle.std.proofs.lemmas.Str.Parse.{IsNumeralModel, numerals_by_fold}
use Rattle.std.proofs.lemmas.Bool.{and_parts}
use Rattle.ami_text.specs.Numbers.{number_in, number_of, read_on}
use mathlib.Core.Bool.{true≢false}

digit_below : (d : ℕ) → is_ascii_digit d ≡ true → d < 128
digit_below d h = grind (arith, nat_tests)

digits_ascii : (ds : List ℕ) → list_all is_ascii_digit ds ≡ true → (i : ℕ) → slice_index ds i < 128
digits_ascii [] h i = omega arith
digits_ascii (d ∷ ds) h zero = digit_below d (and_parts _ _ h).0
digits_ascii (d ∷ ds) h (suc i) = digits_ascii ds (and_parts _ _ h).1 i

pub digits_utf8 : (ds : List ℕ) → list_all is_ascii_digit ds ≡ true → IsUtf8 ds
digits_utf8 ds h = IsUtf8-from_ascii ds (digits_ascii ds h)

pub own_digits : IsNumeralModel (λ ds. list_all is_ascii_digit ds ≡ true) (read_on 0)
own_digits = numerals_by_fold _ (search rules) read_on (search rules)

-- a bound, ten times greater for each digit
abbrev scaled : ℕ → ℕ → ℕ
scaled zero bound = bound
scaled (suc k) bound = scaled k (bound * 10)

-- a digit stands for nine at most
digit_most : (d : ℕ) → is_ascii_digit d ≡ true → d - 48 < 10
digit_most d h = grind (arith, nat_tests)

-- digits that follow a number below a bound
below : (k n bound : ℕ) (ds : List ℕ) → list_all is_ascii_digit ds ≡ true → length ds ≤ k → n < bound → read_on n ds < scaled k bound
below zero n bound [] digits few less = less
below zero n bound (d ∷ ds) digits few less = absurd (omega (arith, few))
below (suc k) n bound [] digits few less = below k n (bound * 10) [] digits (omega arith) (omega (arith, less))
below (suc k) n bound (d ∷ ds) digits few less =
    let parts = and_parts _ _ digits in
    below k (n * 10 + (d - 48)) (bound * 10) ds parts.1 (omega (arith, few)) (let most = digit_most d parts.0 in omega (arith, less, most))

nineteen_digits : (ds : List ℕ) → list_all is_ascii_digit ds ≡ true → length ds ≤ 19 → number_of ds < 2 ^ 64
nineteen_digits ds digits few = let less : number_of ds < 10000000000000000000 = below 19 0 1 ds digits few (omega arith) in omega (arith, less)

-- what was found of the digits is their number
pub is_number : (most : ℕ) (word : List ℕ) (found : Option ℕ) → most ≤ 19 → length word ≤ most → (length word == 0) ≡ false → list_all is_ascii_digit word ≡ true
    → SomeIff found (number_of word < 2 ^ 64) (number_of word) → found ≡ number_in most word
is_number most [] found within few some digits h = absurd (true≢false some)
is_number most (d ∷ ds) None within few some digits h = absurd (h (nineteen_digits (d ∷ ds) digits (omega (arith, within, few))))
is_number most (d ∷ ds) (Some n) within few some digits h =
    let fits : nat_lt most (length (d ∷ ds)) ≡ false = grind (arith, nat_tests, few) in rw (fits, digits) (ap Some h.1)
