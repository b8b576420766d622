-- What is read of numbers, texts and fields is spelled so, and what is spelled so is read.
use Rattle.std.proofs.Common.{◌≡◌, ℕ, zero, suc, ◌^◌, ◌<◌, ◌≤◌, Bool, true, false, ◌&&◌, cond, ltb, List, [], ◌∷◌, ◌++◌, length, take, drop, Option, Some, None, Ok, Err, refl, sym, ap, subst, ◌∙◌, arith}
use Rattle.std.specs.Prelude.{nat_le, nat_lt, ◌==◌}
use Rattle.std.specs.List.{list_any}
use Rattle.std.specs.Int.{w16, w32, w64, to_be_bytes}
use Rattle.std.proofs.lemmas.Bool.{ltb-false, le-ltb}
use Rattle.std.proofs.lemmas.Bool.Decides.{nat_tests}
use Rattle.std.proofs.lemmas.List.{take_at, drop_at, take-append-drop, length-append, length-take}
use Rattle.dots.specs.declared.label.Label.{Label}
use Rattle.dots.specs.declared.limits.TheConstants.{MOST_CALLS, MOST_COUNT, MOST_PENALTY, QUEUES, SITES, TEXT_BYTES}
use Rattle.operations.specs.Registers.{Entry}
use Rattle.dots.specs.Values.{IsCount, IsPenalty, IsSite, IsText, PauseState, is_bad_byte}
use Rattle.dots.specs.WithinLimits.{IsLabel, IsPause, IsStamp}
use Rattle.delta_codec.specs.declared.decode_fault.DecodeFault.TheVariants.{BadRange, BadText}
use Rattle.delta_codec.specs.declared.limits.TheConstants.{OLDEST_VERSION}
use Rattle.delta_codec.specs.Faults.{IsBit, IsFlagged, IsFlags, label_flag, pause_flag, ring_flag}
use Rattle.delta_codec.specs.Parts.{IsEntry, IsRing, bit_of, byte, field_bytes, label_bytes, most_flags, pause_bytes, penalty_bytes, ring_bytes, stamp_bytes, text_bytes}
use Rattle.delta_codec.specs.Reading.{Read, bit_at, both, byte_at, calls_at, count_at, entry_at, field_at, flags_at, is_count, label_at, last_at, no_reason_at, number_at, pause_at, penalty_at, queue_at, reason_at, ring_at, site_at, stamp_at, tested, text_at, text_of}
use Rattle.delta_codec.proofs.PartLaws.{IsBytes, IsBytes_drop, Reads, Takes, bind_ok, byte_reads, number2_reads, number4_reads, number8_reads, ok_is, reads_both, reads_good, reads_made, reads_tested}

-- ---- numbers

pub site_reads : Reads site_at IsSite byte
unfolding site_at
site_reads = reads_good site_at (λ n. (n < 256) × (nat_lt n SITES ≡ true)) IsSite byte (reads_tested byte_at (λ n. n < 256) byte (λ n. nat_lt n SITES) BadRange byte_reads) (λ n g. let t = g.1 in grind (arith, nat_tests)) (λ n g. (omega arith, grind (arith, nat_tests)))

pub count_reads : Reads count_at IsCount (to_be_bytes w64)
unfolding count_at
count_reads = reads_good count_at (λ n. (n < 2 ^ 64) × (is_count n ≡ true)) IsCount (to_be_bytes w64) (reads_tested (number_at w64) (λ n. n < 2 ^ 64) (to_be_bytes w64) is_count BadRange number8_reads) (λ n g. let t = g.1 in (grind (arith, nat_tests), grind (arith, nat_tests))) (λ n g. (omega arith, (let a = g.0 in let b = g.1 in grind (arith, nat_tests))))

-- the last count of a run that has this first one
abbrev pub IsLast : ℕ → ℕ → Type 0
IsLast first n = (first ≤ n) × (n ≤ MOST_COUNT)

pub last_reads : (first : ℕ) → Reads (last_at first) (IsLast first) (to_be_bytes w64)
unfolding last_at
last_reads first = reads_good (last_at first) (λ n. (n < 2 ^ 64) × ((nat_le first n && nat_le n MOST_COUNT) ≡ true)) (IsLast first) (to_be_bytes w64) (reads_tested (number_at w64) (λ n. n < 2 ^ 64) (to_be_bytes w64) (λ n. nat_le first n && nat_le n MOST_COUNT) BadRange number8_reads) (λ n g. let t = g.1 in (grind (arith, nat_tests), grind (arith, nat_tests))) (λ n g. (omega arith, (let a = g.0 in let b = g.1 in grind (arith, nat_tests))))

pub queue_reads : Reads queue_at (λ n. n < QUEUES) (to_be_bytes w16)
unfolding queue_at
queue_reads = reads_good queue_at (λ n. (n < 2 ^ 16) × (nat_lt n QUEUES ≡ true)) (λ n. n < QUEUES) (to_be_bytes w16) (reads_tested (number_at w16) (λ n. n < 2 ^ 16) (to_be_bytes w16) (λ n. nat_lt n QUEUES) BadRange number2_reads) (λ n g. let t = g.1 in grind (arith, nat_tests)) (λ n g. (omega arith, grind (arith, nat_tests)))

pub penalty_reads : Reads penalty_at IsPenalty penalty_bytes
unfolding penalty_at
penalty_reads = reads_good penalty_at (λ n. (n < 2 ^ 32) × (nat_le n MOST_PENALTY ≡ true)) IsPenalty penalty_bytes (reads_tested (number_at w32) (λ n. n < 2 ^ 32) (to_be_bytes w32) (λ n. nat_le n MOST_PENALTY) BadRange number4_reads) (λ n g. let t = g.1 in grind (arith, nat_tests)) (λ n g. (omega arith, grind (arith, nat_tests)))

pub calls_reads : Reads calls_at (λ n. n ≤ MOST_CALLS) (to_be_bytes w64)
unfolding calls_at
calls_reads = reads_good calls_at (λ n. (n < 2 ^ 64) × (nat_le n MOST_CALLS ≡ true)) (λ n. n ≤ MOST_CALLS) (to_be_bytes w64) (reads_tested (number_at w64) (λ n. n < 2 ^ 64) (to_be_bytes w64) (λ n. nat_le n MOST_CALLS) BadRange number8_reads) (λ n g. let t = g.1 in grind (arith, nat_tests)) (λ n g. (omega arith, grind (arith, nat_tests)))

pub bit_reads : Reads bit_at IsBit byte
unfolding bit_at
bit_reads = reads_good bit_at (λ n. (n < 256) × (nat_lt n 2 ≡ true)) IsBit byte (reads_tested byte_at (λ n. n < 256) byte (λ n. nat_lt n 2) BadRange byte_reads) (λ n g. let t = g.1 in grind (arith, nat_tests)) (λ n g. (omega arith, grind (arith, nat_tests)))

-- no version has greater flags
pub few_flags : (version : ℕ) → most_flags version ≤ 15
few_flags version = by (version == OLDEST_VERSION)
  where
    by : (b : Bool) → cond b 7 15 ≤ 15
    by true = omega arith
    by false = omega arith

are_flags : (most n : ℕ) → (nat_le 1 n && nat_le n most) ≡ true → (1 ≤ n) × (n ≤ most)
are_flags most n h = (grind (arith, nat_tests), grind (arith, nat_tests))

flags_are : (most n : ℕ) → 1 ≤ n → n ≤ most → (nat_le 1 n && nat_le n most) ≡ true
flags_are most n a b = grind (arith, nat_tests)

pub flags_reads : (version : ℕ) → Reads (flags_at version) (IsFlags version) byte
unfolding flags_at
flags_reads version = reads_good (flags_at version) (λ n. (n < 256) × ((nat_le 1 n && nat_le n (most_flags version)) ≡ true)) (IsFlags version) byte (reads_tested byte_at (λ n. n < 256) byte (λ n. nat_le 1 n && nat_le n (most_flags version)) BadRange byte_reads)
    (λ n g. are_flags (most_flags version) n g.1)
    (λ n g. (omega (arith, few_flags version, g.1), flags_are (most_flags version) n g.0 g.1))

-- ---- texts

-- a text of at least that number of bytes
abbrev pub IsTextOf : ℕ → List ℕ → Type 0
IsTextOf least text = IsText text × (least ≤ length text)

two_guards : (a b : Bool) (x y : List ℕ × List ℕ) → cond a (Err BadRange) (cond b (Err BadText) (Ok x)) ≡ Ok y → (a ≡ false) × (b ≡ false) × (x ≡ y)
two_guards true b x y e = absurd cc
two_guards false true x y e = absurd cc
two_guards false false x y e = (refl, refl, cc)

pub text_reads : (least : ℕ) → Reads (text_at least) (IsTextOf least) text_bytes
unfolding text_at text_of
text_reads least = record {
  takes = λ bytes x rest fits e.
      let test : ℕ → Bool = λ len. nat_le least len && nat_le len TEXT_BYTES in
      let a = bind_ok (tested test BadText (byte_at bytes)) (λ len. text_of len.0 len.1) (x, rest) e in
      let t = (reads_tested byte_at (λ n. n < 256) byte test BadText byte_reads).takes bytes a.0.0 a.0.1 fits a.1 in
      let g = two_guards (ltb (length a.0.1) a.0.0) (list_any is_bad_byte (take a.0.0 a.0.1)) (take a.0.0 a.0.1, drop a.0.0 a.0.1) (x, rest) a.2 in
      let long : a.0.0 ≤ length a.0.1 = ltb-false _ _ g.0 in
      let len : length (take a.0.0 a.0.1) ≡ a.0.0 = omega (arith, length-take a.0.0 a.0.1) in
      let in_range = t.good.1 in
      let least_is : least ≤ a.0.0 = grind (arith, nat_tests) in
      let most_is : a.0.0 ≤ TEXT_BYTES = grind (arith, nat_tests) in
      let front : bytes ≡ text_bytes (take a.0.0 a.0.1) ++ drop a.0.0 a.0.1 = t.parts ∙ (λ i. sym len i ∷ sym (take-append-drop a.0.0 a.0.1) i) in
      subst (λ (z : List ℕ × List ℕ). Takes (IsTextOf least) text_bytes bytes z.0 z.1) g.2
      (record { good = (record { short = omega (arith, len, most_is); clean = g.1 }, omega (arith, len, least_is)); parts = front; rest_fits = IsBytes_drop a.0.0 a.0.1 t.rest_fits });
  again = λ x rest good.
      let short = good.0.short in
      let test : (nat_le least (length x) && nat_le (length x) TEXT_BYTES) ≡ true = let a = good.1 in grind (arith, nat_tests) in
      let long : ltb (length (x ++ rest)) (length x) ≡ false = le-ltb _ _ (omega (arith, length-append x rest)) in
      rw test (rw (long, take_at x rest (length x) refl, drop_at x rest (length x) refl, good.0.clean) refl);
}

-- no reason
abbrev pub IsNoText : List ℕ → Type 0
IsNoText text = text ≡ []

zero_of : (n : ℕ) → (n == 0) ≡ true → n ≡ 0
zero_of n h = grind (arith, nat_tests)

pub no_reason_reads : Reads no_reason_at IsNoText text_bytes
unfolding no_reason_at
no_reason_reads =
    let short = reads_tested byte_at (λ n. n < 256) byte (λ len. nat_le len TEXT_BYTES) BadText byte_reads in
    let none = reads_tested (λ bytes. tested (λ len. nat_le len TEXT_BYTES) BadText (byte_at bytes)) (λ n. (n < 256) × (nat_le n TEXT_BYTES ≡ true)) byte (λ len. len == 0) BadRange short in
    reads_made (λ bytes. tested (λ len. len == 0) BadRange (tested (λ len. nat_le len TEXT_BYTES) BadText (byte_at bytes))) (λ n. ((n < 256) × (nat_le n TEXT_BYTES ≡ true)) × ((n == 0) ≡ true)) byte IsNoText text_bytes (λ _. []) (λ _. 0) none
    (λ n g. (refl, ap byte (zero_of n g.1)))
    (λ text g. (((omega arith, refl), refl), sym g, ap text_bytes g))

-- ---- fields

pub stamp_reads : Reads stamp_at IsStamp stamp_bytes
unfolding stamp_at
stamp_reads = reads_made (λ bytes. both (count_at bytes) (λ _. site_at)) (λ p. IsCount p.0 × IsSite p.1) (λ p. to_be_bytes w64 p.0 ++ byte p.1) IsStamp stamp_bytes (λ p. record { time = p.0; site = p.1 }) (λ stamp. (stamp.time, stamp.site))
    (reads_both count_at (λ _. site_at) IsCount (λ _. IsSite) (to_be_bytes w64) byte count_reads (λ _ _. site_reads))
    (λ p g. (record { site = g.1; time = g.0 }, refl))
    (λ stamp g. ((g.time, g.site), refl, refl))

-- a reason behind the byte of a pause
pub record IsReason (paused : ℕ) (text : List ℕ) : Type 0 where
  pub text_is : IsText text
  pub none : paused ≡ 0 → text ≡ []

no_text : (text : List ℕ) → text ≡ [] → IsText text
no_text text h = subst (λ (x : List ℕ). IsText x) (sym h) (record { short = omega arith; clean = refl })

pub reason_reads : (paused : ℕ) → Reads (reason_at paused) (IsReason paused) text_bytes
unfolding reason_at
reason_reads zero = reads_good no_reason_at IsNoText (IsReason 0) text_bytes no_reason_reads (λ text g. record { text_is = no_text text g; none = λ _. g }) (λ text g. g.none refl)
reason_reads (suc n) = reads_good (text_at 0) (IsTextOf 0) (IsReason (suc n)) text_bytes (text_reads 0) (λ text g. record { text_is = g.0; none = λ h. absurd (omega (arith, h)) }) (λ text g. (g.text_is, omega arith))

bit_back : (n : ℕ) → n < 2 → bit_of (n == 1) ≡ n
bit_back zero h = refl
bit_back (suc zero) h = refl
bit_back (suc (suc n)) h = absurd (omega (arith, h))

not_one : (n : ℕ) → n < 2 → (n == 1) ≡ false → n ≡ 0
not_one n lt h = grind (arith, nat_tests)

bit_is : (b : Bool) → (bit_of b < 2) × ((bit_of b == 1) ≡ b)
bit_is true = (omega arith, refl)
bit_is false = (omega arith, refl)

none_of : (b : Bool) (text : List ℕ) → (b ≡ false → text ≡ []) → bit_of b ≡ 0 → text ≡ []
none_of true text h e = absurd (omega (arith, e))
none_of false text h e = h refl

pub pause_reads : Reads pause_at IsPause pause_bytes
unfolding pause_at
pause_reads = reads_made (λ bytes. both (bit_at bytes) reason_at) (λ p. IsBit p.0 × IsReason p.0 p.1) (λ p. byte p.0 ++ text_bytes p.1) IsPause pause_bytes (λ p. record { paused = p.0 == 1; reason = p.1 }) (λ pause. (bit_of pause.paused, pause.reason))
    (reads_both bit_at reason_at IsBit IsReason byte text_bytes bit_reads (λ n _. reason_reads n))
    (λ p g. (record { reason = g.1.text_is; none = λ h. g.1.none (not_one p.0 g.0 h) }, ap (λ (n : ℕ). n ∷ text_bytes p.1) (sym (bit_back p.0 g.0))))
    (λ pause g. (((bit_is pause.paused).0, record { text_is = g.reason; none = none_of pause.paused pause.reason g.none }), ap (λ (b : Bool). let p : PauseState = record { paused = b; reason = pause.reason } in p) (bit_is pause.paused).1, refl))

pub label_reads : Reads label_at IsLabel label_bytes
unfolding label_at
label_reads = reads_made (λ bytes. both (text_at 0 bytes) (λ _. text_at 0)) (λ p. IsTextOf 0 p.0 × IsTextOf 0 p.1) (λ p. text_bytes p.0 ++ text_bytes p.1) IsLabel label_bytes (λ p. record { name = p.0; state = p.1 }) (λ label. (label.name, label.state))
    (reads_both (text_at 0) (λ _. text_at 0) (IsTextOf 0) (λ _. IsTextOf 0) text_bytes text_bytes (text_reads 0) (λ _ _. text_reads 0))
    (λ p g. (record { name = g.0.0; state = g.1.0 }, refl))
    (λ label g. (((g.name, omega arith), (g.state, omega arith)), refl, refl))

pub ring_reads : Reads ring_at IsRing ring_bytes
unfolding ring_at
ring_reads = reads_made bit_at IsBit byte IsRing ring_bytes (λ n. n == 1) bit_of bit_reads
    (λ n g. (tt, ap byte (sym (bit_back n g))))
    (λ ring g. ((bit_is ring).0, (bit_is ring).1, refl))

abbrev entry_bytes : {T : Type 0} → (T → List ℕ) → Entry T → List ℕ
entry_bytes value entry = stamp_bytes entry.stamp ++ value entry.value

entry_reads : {T : Type 0} (at : List ℕ → Read T) (IsValue : T → Type 0) (value : T → List ℕ) → Reads at IsValue value → Reads (entry_at at) (IsEntry IsValue) (entry_bytes value)
unfolding entry_at
entry_reads at IsValue value r = reads_made (λ bytes. both (stamp_at bytes) (λ _. at)) (λ p. IsStamp p.0 × IsValue p.1) (λ p. stamp_bytes p.0 ++ value p.1) (IsEntry IsValue) (entry_bytes value) (λ p. record { stamp = p.0; value = p.1 }) (λ entry. (entry.stamp, entry.value))
    (reads_both stamp_at (λ _. at) IsStamp (λ _. IsValue) stamp_bytes value stamp_reads (λ _ _. r))
    (λ p g. (record { stamp = g.0; value = g.1 }, refl))
    (λ entry g. ((g.stamp, g.value), refl, refl))

absent_takes : {T : Type 0} (IsValue : T → Type 0) (value : T → List ℕ) (bytes : List ℕ) (x : Option (Entry T)) (rest : List ℕ) → IsBytes bytes → ◌≡◌ {A = Option (Entry T) × List ℕ} (None, bytes) (x, rest) → Takes (IsFlagged IsValue false) (field_bytes value) bytes x rest
absent_takes {T = T} IsValue value bytes x rest fits e = subst (λ (z : Option (Entry T) × List ℕ). Takes (IsFlagged IsValue false) (field_bytes value) bytes z.0 z.1) e (record { good = record { set = refl; value = tt }; parts = refl; rest_fits = fits })

field_again : {T : Type 0} (at : List ℕ → Read T) (IsValue : T → Type 0) (value : T → List ℕ) → Reads at IsValue value → (flag : Bool) (x : Option (Entry T)) (rest : List ℕ) → IsFlagged IsValue flag x → field_at flag at (field_bytes value x ++ rest) ≡ Ok (x, rest)
unfolding field_at
field_again at IsValue value r true None rest g = absurd (let e = g.set in cc)
field_again at IsValue value r false None rest g = refl
field_again at IsValue value r true (Some entry) rest g = rw ((entry_reads at IsValue value r).again entry rest g.value) refl
field_again at IsValue value r false (Some entry) rest g = absurd (let e = g.set in cc)

field_takes : {T : Type 0} (at : List ℕ → Read T) (IsValue : T → Type 0) (value : T → List ℕ) → Reads at IsValue value → (flag : Bool) (bytes : List ℕ) (x : Option (Entry T)) (rest : List ℕ) → IsBytes bytes → field_at flag at bytes ≡ Ok (x, rest) → Takes (IsFlagged IsValue flag) (field_bytes value) bytes x rest
unfolding field_at
field_takes at IsValue value r false bytes x rest fits e = absent_takes IsValue value bytes x rest fits (ok_is (None, bytes) (x, rest) e)
field_takes {T = T} at IsValue value r true bytes x rest fits e =
    let a = bind_ok (entry_at at bytes) (λ y. Ok (Some y.0, y.1)) (x, rest) e in
    let t = (entry_reads at IsValue value r).takes bytes a.0.0 a.0.1 fits a.1 in
    let found : Option (Entry T) × List ℕ = (Some a.0.0, a.0.1) in
    subst (λ (z : Option (Entry T) × List ℕ). Takes (IsFlagged IsValue true) (field_bytes value) bytes z.0 z.1) (ok_is found (x, rest) a.2) (record { good = record { set = refl; value = t.good }; parts = t.parts; rest_fits = t.rest_fits })

pub field_reads : {T : Type 0} (at : List ℕ → Read T) (IsValue : T → Type 0) (value : T → List ℕ) → Reads at IsValue value → (flag : Bool) → Reads (field_at flag at) (IsFlagged IsValue flag) (field_bytes value)
field_reads at IsValue value r flag = record { takes = field_takes at IsValue value r flag; again = field_again at IsValue value r flag }

-- ---- the fields that stand last

abbrev pub last_fields_at : ℕ → List ℕ → Read (Option (Entry Label) × Option (Entry Bool))
last_fields_at flags bytes = both (field_at (label_flag flags) label_at bytes) (λ _. field_at (ring_flag flags) ring_at)

abbrev pub later_fields_at : ℕ → List ℕ → Read (Option (Entry PauseState) × (Option (Entry Label) × Option (Entry Bool)))
later_fields_at flags bytes = both (field_at (pause_flag flags) pause_at bytes) (λ _. last_fields_at flags)
