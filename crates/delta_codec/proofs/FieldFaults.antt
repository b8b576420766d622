-- Which fault a text has, and which a field.
use Rattle.std.proofs.Common.{◌≡◌, ◌⊎◌, ℕ, zero, suc, ◌<◌, ◌≤◌, Bool, true, false, ◌&&◌, cond, ltb, List, [], ◌∷◌, length, take, drop, Some, Ok, Err, refl, sym, ap, inl, inr, arith}
use Rattle.std.specs.Prelude.{◌==◌, nat_le, nat_lt}
use Rattle.std.specs.Int.{w32, w64}
use Rattle.std.specs.List.{list_any}
use Rattle.std.proofs.lemmas.Bool.{cases_lt, ltb-true, ltb-false, lt-ltb, le-ltb}
use Rattle.std.proofs.lemmas.Bool.Decides.{nat_tests}
use Rattle.dots.specs.declared.limits.TheConstants.{MOST_PENALTY, SITES, TEXT_BYTES}
use Rattle.dots.specs.Values.{IsPenalty, IsText, is_bad_byte}
use Rattle.dots.specs.WithinLimits.{IsLabel, IsPause, IsStamp}
use Rattle.delta_codec.specs.declared.decode_fault.DecodeFault.{DecodeFault}
use Rattle.delta_codec.specs.declared.decode_fault.DecodeFault.TheVariants.{BadRange, BadText}
use Rattle.delta_codec.specs.Faults.{FieldFails, FieldsFail, IsBit, IsFlagged, LabelFails, Lacks, NoReasonFails, PauseFails, PenaltyFails, ReasonFails, RingFails, TextFails, label_flag, pause_flag, penalty_flag, ring_flag}
use Rattle.delta_codec.specs.Parts.{byte, field_bytes, label_bytes, pause_bytes, penalty_bytes, stamp_bytes, text_bytes}
use Rattle.delta_codec.specs.Reading.{Read, bit_at, both, byte_at, count_at, entry_at, field_at, is_count, label_at, no_reason_at, number_at, pause_at, penalty_at, reason_at, ring_at, set_fields_at, site_at, stamp_at, tested, text_at, text_of}
use Rattle.delta_codec.proofs.FieldLaws.{IsTextOf, bit_reads, field_reads, label_reads, last_fields_at, later_fields_at, pause_reads, penalty_reads, stamp_reads, text_reads}
use Rattle.delta_codec.proofs.PartFaults.{HasOneFault, Reports, fault_is, guard_err, is_over, is_under, last_err, one_both, one_byte, one_made, one_number, one_tested, over, reports_both, reports_lacks, reports_made, reports_same, test_err, under}
use Rattle.delta_codec.proofs.PartLaws.{Reads, reads_good}

-- ---- numbers

pub one_site : HasOneFault BadRange site_at
unfolding site_at
one_site = one_tested byte_at (λ n. nat_lt n SITES) BadRange one_byte

pub one_count : HasOneFault BadRange count_at
unfolding count_at
one_count = one_tested (number_at w64) is_count BadRange (one_number w64)

one_penalty : HasOneFault BadRange penalty_at
unfolding penalty_at
one_penalty = one_tested (number_at w32) (λ n. nat_le n MOST_PENALTY) BadRange (one_number w32)

one_bit : HasOneFault BadRange bit_at
unfolding bit_at
one_bit = one_tested byte_at (λ n. nat_lt n 2) BadRange one_byte

one_stamp : HasOneFault BadRange stamp_at
unfolding stamp_at
one_stamp = one_made (λ p. record { time = p.0; site = p.1 }) (λ bytes. both (count_at bytes) (λ _. site_at)) BadRange (one_both count_at (λ _. site_at) BadRange one_count (λ _. one_site))

pub stamp_reports : Reports stamp_at (Lacks IsStamp stamp_bytes BadRange)
stamp_reports = reports_lacks stamp_at IsStamp stamp_bytes BadRange stamp_reads one_stamp

penalty_reports : Reports penalty_at PenaltyFails
penalty_reports = reports_lacks penalty_at IsPenalty penalty_bytes BadRange penalty_reads one_penalty

bit_reports : Reports bit_at (Lacks IsBit byte BadRange)
bit_reports = reports_lacks bit_at IsBit byte BadRange bit_reads one_bit

-- ---- texts

abbrev of_length : ℕ → ℕ → Bool
of_length least len = nat_le least len && nat_le len TEXT_BYTES

not_of_length : (least len : ℕ) → of_length least len ≡ false → (len < least) ⊎ (TEXT_BYTES < len)
not_of_length least len h =
    elim (cases_lt len least) [
      | inl short ↦ inl short
      | inr enough ↦ elim (cases_lt TEXT_BYTES len) [
        | inl long ↦ inr long
        | inr few ↦ absurd (never least len enough few h)
      ]
    ]
  where
    never : (least len : ℕ) → least ≤ len → len ≤ TEXT_BYTES → of_length least len ≡ false → ⊥
    never least len a b h = grind (arith, nat_tests)

is_least : (least len : ℕ) → of_length least len ≡ true → least ≤ len
is_least least len h = grind (arith, nat_tests)

is_most : (least len : ℕ) → of_length least len ≡ true → len ≤ TEXT_BYTES
is_most least len h = grind (arith, nat_tests)

has_length : (least len : ℕ) → least ≤ len → len ≤ TEXT_BYTES → of_length least len ≡ true
has_length least len a b = grind (arith, nat_tests)

too_short : (least len : ℕ) → len < least → of_length least len ≡ false
too_short least len h = grind (arith, nat_tests)

too_long : (least len : ℕ) → TEXT_BYTES < len → of_length least len ≡ false
too_long least len h = grind (arith, nat_tests)

text_only : (least : ℕ) (bytes : List ℕ) (fault : DecodeFault) → text_at least bytes ≡ Err fault → TextFails least fault bytes
unfolding text_at text_of
text_only least [] fault e = sym (fault_is {A = List ℕ × List ℕ} BadRange fault e)
text_only least (len ∷ rest) fault e =
    let found : ℕ × List ℕ = (len, rest) in
    elim (test_err (of_length least len) found BadText fault (λ x. text_of x.0 x.1) e) [
      | inl bad ↦ inl (not_of_length least len bad.0, bad.1)
      | inr good ↦ elim (guard_err (ltb (length rest) len) BadRange fault (cond (list_any is_bad_byte (take len rest)) (Err BadText) (Ok (take len rest, drop len rest))) good.1) [
        | inl short ↦ inr (inl (is_least least len good.0, is_most least len good.0, ltb-true _ _ short.0, short.1))
        | inr there ↦ elim (guard_err (list_any is_bad_byte (take len rest)) BadText fault (Ok (take len rest, drop len rest)) there.1) [
          | inl dirty ↦ inr (inr (is_least least len good.0, is_most least len good.0, ltb-false _ _ there.0, dirty.0, dirty.1))
          | inr clean ↦ absurd (let never = clean.1 in cc)
        ]
      ]
    ]

text_always : (least : ℕ) (bytes : List ℕ) (fault : DecodeFault) → TextFails least fault bytes → text_at least bytes ≡ Err fault
unfolding text_at text_of
text_always least [] fault h = ap (λ (y : DecodeFault). Err y) (sym h)
text_always least (len ∷ rest) fault h =
    elim h [
      | inl bad ↦ elim bad.0 [
        | inl short ↦ rw (too_short least len short, bad.1) refl
        | inr long ↦ rw (too_long least len long, bad.1) refl
      ]
      | inr good ↦ elim good [
        | inl short ↦ rw (has_length least len short.0 short.1, lt-ltb _ _ short.2, short.3) refl
        | inr dirty ↦ rw (has_length least len dirty.0 dirty.1, le-ltb _ _ dirty.2, dirty.3, dirty.4) refl
      ]
    ]

pub text_reports : (least : ℕ) → Reports (text_at least) (TextFails least)
text_reports least = record { only = λ bytes fault fits e. text_only least bytes fault e; always = λ bytes fault fits h. text_always least bytes fault h }

-- the length of no reason
abbrev no_length_at : List ℕ → Read ℕ
no_length_at bytes = tested (λ len. len == 0) BadRange (tested (λ len. nat_le len TEXT_BYTES) BadText (byte_at bytes))

some_of : (n : ℕ) → (n == 0) ≡ false → 0 < n
some_of n h = grind (arith, nat_tests)

is_some_of : (n : ℕ) → 0 < n → (n == 0) ≡ false
is_some_of n h = grind (arith, nat_tests)

no_length_only : (bytes : List ℕ) (fault : DecodeFault) → no_length_at bytes ≡ Err fault → NoReasonFails fault bytes
no_length_only [] fault e = sym (fault_is {A = ℕ × List ℕ} BadRange fault e)
no_length_only (len ∷ rest) fault e =
    let found : ℕ × List ℕ = (len, rest) in
    elim (test_err (nat_le len TEXT_BYTES) found BadText fault (λ x. cond (x.0 == 0) (Ok x) (Err BadRange)) e) [
      | inl long ↦ inl (over len TEXT_BYTES long.0, long.1)
      | inr short ↦ let some = last_err (len == 0) found BadRange fault short.1 in inr (some_of len some.0, under len TEXT_BYTES short.0, some.1)
    ]

no_length_always : (bytes : List ℕ) (fault : DecodeFault) → NoReasonFails fault bytes → no_length_at bytes ≡ Err fault
no_length_always [] fault h = ap (λ (y : DecodeFault). Err y) (sym h)
no_length_always (len ∷ rest) fault h =
    elim h [
      | inl long ↦ rw (is_over len TEXT_BYTES long.0, long.1) refl
      | inr some ↦ rw (is_under len TEXT_BYTES some.1) (rw (is_some_of len some.0, some.2) refl)
    ]

no_reason_reports : Reports no_reason_at NoReasonFails
unfolding no_reason_at
no_reason_reports = reports_made (λ _. []) no_length_at NoReasonFails (record { only = λ bytes fault fits e. no_length_only bytes fault e; always = λ bytes fault fits h. no_length_always bytes fault h })

-- ---- fields

reason_reports : (paused : ℕ) → IsBit paused → Reports (reason_at paused) (λ fault rest. ReasonFails fault paused rest)
unfolding reason_at
reason_reports zero bit = reports_same no_reason_at NoReasonFails (λ fault rest. ReasonFails fault 0 rest) no_reason_reports (λ fault rest h. inl (refl, h)) (λ fault rest h. elim h [
  | inl none ↦ none.1
  | inr some ↦ absurd (let never = some.0 in omega arith)
])
reason_reports (suc zero) bit = reports_same (text_at 0) (TextFails 0) (λ fault rest. ReasonFails fault 1 rest) (text_reports 0) (λ fault rest h. inr (refl, h)) (λ fault rest h. elim h [
  | inl none ↦ absurd (let never = none.0 in omega arith)
  | inr some ↦ some.1
])
reason_reports (suc (suc n)) bit = absurd (omega (arith, bit))

pause_reports : Reports pause_at PauseFails
unfolding pause_at
pause_reports = reports_made (λ p. record { paused = p.0 == 1; reason = p.1 }) (λ bytes. both (bit_at bytes) reason_at) PauseFails (reports_both bit_at reason_at IsBit byte (Lacks IsBit byte BadRange) ReasonFails bit_reads bit_reports reason_reports)

name_reads : Reads (text_at 0) IsText text_bytes
name_reads = reads_good (text_at 0) (IsTextOf 0) IsText text_bytes (text_reads 0) (λ text g. g.0) (λ text g. (g, omega arith))

label_reports : Reports label_at LabelFails
unfolding label_at
label_reports = reports_made (λ p. record { name = p.0; state = p.1 }) (λ bytes. both (text_at 0 bytes) (λ _. text_at 0)) LabelFails (reports_both (text_at 0) (λ _. text_at 0) IsText text_bytes (TextFails 0) (λ fault _ rest. TextFails 0 fault rest) name_reads (text_reports 0) (λ _ _. text_reports 0))

ring_reports : Reports ring_at RingFails
unfolding ring_at
ring_reports = reports_made (λ n. n == 1) bit_at RingFails bit_reports

entry_reports : {T : Type 0} (at : List ℕ → Read T) (Fails : DecodeFault → List ℕ → Type 0) → Reports at Fails → Reports (entry_at at) (λ fault bytes. FieldFails Fails fault true bytes)
unfolding entry_at
entry_reports at Fails t = reports_made (λ p. record { stamp = p.0; value = p.1 }) (λ bytes. both (stamp_at bytes) (λ _. at)) (λ fault bytes. FieldFails Fails fault true bytes) (reports_both stamp_at (λ _. at) IsStamp stamp_bytes (Lacks IsStamp stamp_bytes BadRange) (λ fault _ rest. Fails fault rest) stamp_reads stamp_reports (λ _ _. t))

field_reports : {T : Type 0} (at : List ℕ → Read T) (Fails : DecodeFault → List ℕ → Type 0) → Reports at Fails → (flag : Bool) → Reports (field_at flag at) (λ fault bytes. FieldFails Fails fault flag bytes)
unfolding field_at
field_reports at Fails t true = reports_made Some (entry_at at) (λ fault bytes. FieldFails Fails fault true bytes) (entry_reports at Fails t)
field_reports at Fails t false = record { only = λ bytes fault fits e. absurd cc; always = λ bytes fault fits h. absurd h }

pub set_fields_report : (flags : ℕ) → Reports (set_fields_at flags) (λ fault bytes. FieldsFail fault flags bytes)
unfolding set_fields_at
set_fields_report flags =
    let p = penalty_flag flags in
    let q = pause_flag flags in
    let l = label_flag flags in
    let r = ring_flag flags in
    let last = reports_both (field_at l label_at) (λ _. field_at r ring_at) (IsFlagged IsLabel l) (field_bytes label_bytes) (λ fault bytes. FieldFails LabelFails fault l bytes) (λ fault _ rest. FieldFails RingFails fault r rest) (field_reads label_at IsLabel label_bytes label_reads l) (field_reports label_at LabelFails label_reports l) (λ _ _. field_reports ring_at RingFails ring_reports r) in
    let later = reports_both (field_at q pause_at) (λ _. last_fields_at flags) (IsFlagged IsPause q) (field_bytes pause_bytes) (λ fault bytes. FieldFails PauseFails fault q bytes) _ (field_reads pause_at IsPause pause_bytes pause_reads q) (field_reports pause_at PauseFails pause_reports q) (λ _ _. last) in
    let all = reports_both (field_at p penalty_at) (λ _. later_fields_at flags) (IsFlagged IsPenalty p) (field_bytes penalty_bytes) (λ fault bytes. FieldFails PenaltyFails fault p bytes) _ (field_reads penalty_at IsPenalty penalty_bytes penalty_reads p) (field_reports penalty_at PenaltyFails penalty_reports p) (λ _ _. later) in
    reports_made (λ p. record { penalty = p.0; pause = p.1.0; label = p.1.1.0; ring = p.1.1.1 }) (λ bytes. both (field_at p penalty_at bytes) (λ _. later_fields_at flags)) (λ fault bytes. FieldsFail fault flags bytes) all
