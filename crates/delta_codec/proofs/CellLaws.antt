-- What is read of runs, cells and totals is spelled so, and what is spelled so is read.
use Rattle.std.proofs.Common.{◌≡◌, ℕ, ◌+◌, ◌*◌, ◌/◌, ◌%◌, ◌<◌, ◌≤◌, Bool, true, false, not, List, ◌∷◌, ◌++◌, Option, Some, None, is_some, refl, sym, ap, subst, ◌∙◌, append_assoc, arith, inl, inr}
use Rattle.std.specs.Prelude.{◌==◌}
use Rattle.std.specs.Int.{w16, w64, to_be_bytes}
use Rattle.std.proofs.lemmas.Bool.{cases_lt}
use Rattle.std.proofs.lemmas.Bool.Decides.{nat_tests}
use Rattle.dots.specs.declared.call_totals.CallTotals.{CallTotals}
use Rattle.dots.specs.declared.limits.TheConstants.{MOST_CALLS, QUEUES}
use Rattle.operations.specs.Conditions.{DotFields, no_fields}
use Rattle.dots.specs.CountedCalls.{is_zero}
use Rattle.operations.specs.Totals.{IsTotal}
use Rattle.dots.specs.Values.{IsCount, IsPenalty, IsSite}
use Rattle.dots.specs.WithinLimits.{IsDot, IsLabel, IsPause}
use Rattle.causal_context.specs.Contexts.{IsRunWithinLimits}
use Rattle.delta_codec.specs.declared.decode_fault.DecodeFault.TheVariants.{BadRange}
use Rattle.delta_codec.specs.Faults.{IsFlagged, IsFlags, IsPlace, label_flag, pause_flag, penalty_flag, place_bytes, ring_flag}
use Rattle.delta_codec.specs.Frames.{IsHeading, heading_bytes}
use Rattle.delta_codec.specs.Parts.{AreFields, AreInLimits, IsCell, IsRing, TotalParts, bit_of, byte, cell_bytes, dot_bytes, field_bytes, fields_bytes, flags_of, label_bytes, most_flags, pause_bytes, penalty_bytes, ring_bytes, run_bytes, text_bytes, total_bytes}
use Rattle.delta_codec.specs.Reading.{both, calls_at, cell_at, count_at, dot_at, field_at, fields_at, flags_at, heading_at, label_at, last_at, made, pause_at, penalty_at, place_at, queue_at, ring_at, run_at, set_fields_at, site_at, text_at, total_at}
use Rattle.delta_codec.proofs.FieldLaws.{IsLast, IsTextOf, calls_reads, count_reads, few_flags, field_reads, flags_reads, label_reads, last_fields_at, last_reads, later_fields_at, pause_reads, penalty_reads, queue_reads, ring_reads, site_reads, text_reads}
use Rattle.delta_codec.proofs.PartLaws.{Reads, reads_both, reads_good, reads_made, reads_tested}

-- ---- fields

-- each field is set where its flag is
pub record AreFlagged (flags : ℕ) (fields : DotFields) : Type 0 where
  pub penalty : IsFlagged IsPenalty (penalty_flag flags) fields.penalty
  pub pause : IsFlagged IsPause (pause_flag flags) fields.pause
  pub label : IsFlagged IsLabel (label_flag flags) fields.label
  pub ring : IsFlagged IsRing (ring_flag flags) fields.ring

abbrev set_fields_bytes : DotFields → List ℕ
set_fields_bytes fields = field_bytes penalty_bytes fields.penalty ++ (field_bytes pause_bytes fields.pause ++ (field_bytes label_bytes fields.label ++ field_bytes ring_bytes fields.ring))

set_fields_reads : (flags : ℕ) → Reads (set_fields_at flags) (AreFlagged flags) set_fields_bytes
unfolding set_fields_at
set_fields_reads flags =
    let P = IsFlagged IsPenalty (penalty_flag flags) in
    let Q = IsFlagged IsPause (pause_flag flags) in
    let L = IsFlagged IsLabel (label_flag flags) in
    let R = IsFlagged IsRing (ring_flag flags) in
    let last = reads_both (field_at (label_flag flags) label_at) (λ _. field_at (ring_flag flags) ring_at) L (λ _. R) (field_bytes label_bytes) (field_bytes ring_bytes) (field_reads label_at IsLabel label_bytes label_reads (label_flag flags)) (λ _ _. field_reads ring_at IsRing ring_bytes ring_reads (ring_flag flags)) in
    let later = reads_both (field_at (pause_flag flags) pause_at) (λ _. last_fields_at flags) Q (λ _ p. L p.0 × R p.1) (field_bytes pause_bytes) (λ p. field_bytes label_bytes p.0 ++ field_bytes ring_bytes p.1) (field_reads pause_at IsPause pause_bytes pause_reads (pause_flag flags)) (λ _ _. last) in
    let all = reads_both (field_at (penalty_flag flags) penalty_at) (λ _. later_fields_at flags) P (λ _ p. Q p.0 × (L p.1.0 × R p.1.1)) (field_bytes penalty_bytes) (λ p. field_bytes pause_bytes p.0 ++ (field_bytes label_bytes p.1.0 ++ field_bytes ring_bytes p.1.1)) (field_reads penalty_at IsPenalty penalty_bytes penalty_reads (penalty_flag flags)) (λ _ _. later) in
    reads_made (λ bytes. both (field_at (penalty_flag flags) penalty_at bytes) (λ _. later_fields_at flags)) (λ p. P p.0 × (Q p.1.0 × (L p.1.1.0 × R p.1.1.1))) (λ p. field_bytes penalty_bytes p.0 ++ (field_bytes pause_bytes p.1.0 ++ (field_bytes label_bytes p.1.1.0 ++ field_bytes ring_bytes p.1.1.1))) (AreFlagged flags) set_fields_bytes (λ p. record { penalty = p.0; pause = p.1.0; label = p.1.1.0; ring = p.1.1.1 }) (λ f. (f.penalty, (f.pause, (f.label, f.ring)))) all
    (λ p g. (record { penalty = g.0; pause = g.1.0; label = g.1.1.0; ring = g.1.1.1 }, refl))
    (λ f g. ((g.penalty, (g.pause, (g.label, g.ring))), refl, refl))

pub few_bit : (b : Bool) → bit_of b ≤ 1
few_bit true = omega arith
few_bit false = omega arith

-- what a flag says of a number whose last bit is n
flag_bit : (n : ℕ) → bit_of (n % 2 == 1) ≡ n % 2
flag_bit n = grind (arith, nat_tests)

-- a number whose last bit is that of a flag says the flag
says : (n : ℕ) (b : Bool) → n % 2 ≡ bit_of b → b ≡ (n % 2 == 1)
says n true h = grind (arith, nat_tests)
says n false h = grind (arith, nat_tests)

flags_back : (n : ℕ) → n ≤ 15 → bit_of (penalty_flag n) + (2 * bit_of (pause_flag n) + (4 * bit_of (label_flag n) + 8 * bit_of (ring_flag n))) ≡ n
flags_back n few = omega (arith, few, flag_bit n, flag_bit (n / 2), flag_bit (n / 4), flag_bit (n / 8))

flags_are : (version n : ℕ) (f : DotFields) → IsFlags version n → AreFlagged n f → flags_of f ≡ n
flags_are version n f h g =
    (λ i. bit_of (g.penalty.set i) + (2 * bit_of (g.pause.set i) + (4 * bit_of (g.label.set i) + 8 * bit_of (g.ring.set i))))
    ∙ flags_back n (omega (arith, few_flags version, h.1))

pub none_of : {T : Type 0} (field : Option T) → bit_of (is_some field) ≡ 0 → field ≡ None
none_of None h = refl
none_of (Some x) h = absurd (omega (arith, h))

none_flagged : (f : DotFields) → f ≡ no_fields → flags_of f ≡ 0
none_flagged f h = ap (λ (g : DotFields). flags_of g) h

none_set : (f : DotFields) → flags_of f ≡ 0 → f ≡ no_fields
none_set f h =
    let penalty = none_of f.penalty (omega (arith, h)) in
    let pause = none_of f.pause (omega (arith, h)) in
    let label = none_of f.label (omega (arith, h)) in
    let ring = none_of f.ring (omega (arith, h)) in
    λ i. record { penalty = penalty i; pause = pause i; label = label i; ring = ring i }

are_flags : (version : ℕ) (f : DotFields) → AreFields version f → IsFlags version (flags_of f)
are_flags version f g =
    elim (cases_lt 0 (flags_of f)) [
      | inl one ↦ (omega (arith, one), g.of_version)
      | inr none ↦ absurd (g.some (none_set f (omega (arith, none))))
    ]

-- no fields have greater flags
pub flags_few : (f : DotFields) → flags_of f ≤ 15
flags_few f = omega (arith, few_bit (is_some f.penalty), few_bit (is_some f.pause), few_bit (is_some f.label), few_bit (is_some f.ring))

flagged : (f : DotFields) → AreInLimits f → AreFlagged (flags_of f) f
flagged f g =
    let penalty = few_bit (is_some f.penalty) in
    let pause = few_bit (is_some f.pause) in
    let label = few_bit (is_some f.label) in
    let ring = few_bit (is_some f.ring) in
    record {
      penalty = record { set = says (flags_of f) (is_some f.penalty) (omega arith); value = g.penalty };
      pause = record { set = says (flags_of f / 2) (is_some f.pause) (omega arith); value = g.pause };
      label = record { set = says (flags_of f / 4) (is_some f.label) (omega arith); value = g.label };
      ring = record { set = says (flags_of f / 8) (is_some f.ring) (omega arith); value = g.ring };
    }

pub fields_reads : (version : ℕ) → Reads (fields_at version) (AreFields version) fields_bytes
unfolding fields_at
fields_reads version = reads_made (λ bytes. both (flags_at version bytes) set_fields_at) (λ p. IsFlags version p.0 × AreFlagged p.0 p.1) (λ p. byte p.0 ++ set_fields_bytes p.1) (AreFields version) fields_bytes (λ p. p.1) (λ f. (flags_of f, f))
    (reads_both (flags_at version) set_fields_at (IsFlags version) AreFlagged byte set_fields_bytes (flags_reads version) (λ n _. set_fields_reads n))
    (λ p g.
    let are = flags_are version p.0 p.1 g.0 g.1 in (
      record {
        within = record { penalty = g.1.penalty.value; pause = g.1.pause.value; label = g.1.label.value; ring = g.1.ring.value };
        some = λ h. absurd (let none = none_flagged p.1 h in omega (arith, none, are, g.0.0));
        of_version = subst (λ n. n ≤ most_flags version) (sym are) g.0.1;
      },
      ap (λ (n : ℕ). n ∷ set_fields_bytes p.1) (sym are),
    ))
    (λ f g. ((are_flags version f g, flagged f g.within), refl, refl))

-- ---- runs, cells, totals

pub run_reads : Reads run_at IsRunWithinLimits run_bytes
unfolding run_at
run_reads =
    let later = reads_both count_at last_at IsCount IsLast (to_be_bytes w64) (to_be_bytes w64) count_reads (λ n _. last_reads n) in
    let all = reads_both site_at (λ _ rest. both (count_at rest) last_at) IsSite (λ _ p. IsCount p.0 × IsLast p.0 p.1) byte (λ p. to_be_bytes w64 p.0 ++ to_be_bytes w64 p.1) site_reads (λ _ _. later) in
    reads_made (λ bytes. both (site_at bytes) (λ _ rest. both (count_at rest) last_at)) (λ p. IsSite p.0 × (IsCount p.1.0 × IsLast p.1.0 p.1.1)) (λ p. byte p.0 ++ (to_be_bytes w64 p.1.0 ++ to_be_bytes w64 p.1.1)) IsRunWithinLimits run_bytes (λ p. record { site = p.0; first = p.1.0; last = p.1.1 }) (λ r. (r.site, (r.first, r.last))) all
    (λ p g. (record { site = g.0; least = g.1.0.0; ordered = g.1.1.0; most = g.1.1.1 }, refl))
    (λ r g. ((g.site, ((g.least, omega (arith, g.ordered, g.most)), (g.ordered, g.most))), refl, refl))

pub dot_reads : Reads dot_at IsDot dot_bytes
unfolding dot_at
dot_reads = reads_made (λ bytes. both (site_at bytes) (λ _. count_at)) (λ p. IsSite p.0 × IsCount p.1) (λ p. byte p.0 ++ to_be_bytes w64 p.1) IsDot dot_bytes (λ p. record { site = p.0; count = p.1 }) (λ d. (d.site, d.count))
    (reads_both site_at (λ _. count_at) IsSite (λ _. IsCount) byte (to_be_bytes w64) site_reads (λ _ _. count_reads))
    (λ p g. (record { site = g.0; count = g.1 }, refl))
    (λ d g. ((g.site, g.count), refl, refl))

pub heading_reads : Reads heading_at IsHeading heading_bytes
unfolding heading_at
heading_reads = reads_made (λ bytes. both (site_at bytes) (λ _. count_at)) (λ p. IsSite p.0 × IsCount p.1) (λ p. byte p.0 ++ to_be_bytes w64 p.1) IsHeading heading_bytes (λ p. record { maker = p.0; number = p.1 }) (λ h. (h.maker, h.number))
    (reads_both site_at (λ _. count_at) IsSite (λ _. IsCount) byte (to_be_bytes w64) site_reads (λ _ _. count_reads))
    (λ p g. (record { maker = g.0; number = g.1 }, refl))
    (λ h g. ((g.maker, g.number), refl, refl))

pub place_reads : Reads place_at IsPlace place_bytes
unfolding place_at
place_reads = reads_made (λ bytes. both (dot_at bytes) (λ _. queue_at)) (λ p. IsDot p.0 × (p.1 < QUEUES)) (λ p. dot_bytes p.0 ++ to_be_bytes w16 p.1) IsPlace place_bytes (λ p. record { dot = p.0; queue = p.1 }) (λ p. (p.dot, p.queue))
    (reads_both dot_at (λ _. queue_at) IsDot (λ _ n. n < QUEUES) dot_bytes (to_be_bytes w16) dot_reads (λ _ _. queue_reads))
    (λ p g. (record { dot = g.0; queue = g.1 }, refl))
    (λ p g. ((g.dot, g.queue), refl, refl))

pub cell_reads : (version : ℕ) → Reads (cell_at version) (IsCell version) cell_bytes
unfolding cell_at
cell_reads version =
    let later = reads_both (text_at 1) (λ _. fields_at version) (IsTextOf 1) (λ _. AreFields version) text_bytes fields_bytes (text_reads 1) (λ _ _. fields_reads version) in
    let all = reads_both place_at (λ _ rest. both (text_at 1 rest) (λ _. fields_at version)) IsPlace (λ _ p. IsTextOf 1 p.0 × AreFields version p.1) place_bytes (λ p. text_bytes p.0 ++ fields_bytes p.1) place_reads (λ _ _. later) in
    reads_made (λ bytes. both (place_at bytes) (λ _ rest. both (text_at 1 rest) (λ _. fields_at version))) (λ p. IsPlace p.0 × (IsTextOf 1 p.1.0 × AreFields version p.1.1)) (λ p. place_bytes p.0 ++ (text_bytes p.1.0 ++ fields_bytes p.1.1)) (IsCell version) cell_bytes (λ p. (p.0.dot, (record { queue = p.0.queue; interface = p.1.0 }, p.1.1))) (λ c. (record { dot = c.0; queue = c.1.0.queue }, (c.1.0.interface, c.1.1))) all
    (λ p g. (record { dot = g.0.dot; member = record { queue = g.0.queue; interface = record { text = g.1.0.0; present = omega (arith, g.1.0.1) } }; fields = g.1.1 }, append_assoc (dot_bytes p.0.dot) (to_be_bytes w16 p.0.queue) (text_bytes p.1.0 ++ fields_bytes p.1.1)))
    (λ c g. ((record { dot = g.dot; queue = g.member.queue }, ((g.member.interface.text, omega (arith, g.member.interface.present)), g.fields)), refl, sym (append_assoc (dot_bytes c.0) (to_be_bytes w16 c.1.0.queue) (text_bytes c.1.0.interface ++ fields_bytes c.1.1))))

counted : (t : CallTotals) → not (is_zero t) ≡ true → 0 < t.completed + t.abandoned
counted t h = grind (arith, nat_tests)

not_zero : (t : CallTotals) → 0 < t.completed + t.abandoned → not (is_zero t) ≡ true
not_zero t h = grind (arith, nat_tests)

-- whose totals, and how many calls, each within its limit
pub record IsWithin (total : TotalParts) : Type 0 where
  pub site : IsSite total.0.site
  pub queue : total.0.queue < QUEUES
  pub completed : total.1.completed ≤ MOST_CALLS
  pub abandoned : total.1.abandoned ≤ MOST_CALLS

pub total_reads : Reads total_at (λ total. IsTotal total.0 total.1) total_bytes
unfolding total_at
total_reads =
    let last = reads_both calls_at (λ _. calls_at) (λ n. n ≤ MOST_CALLS) (λ _ n. n ≤ MOST_CALLS) (to_be_bytes w64) (to_be_bytes w64) calls_reads (λ _ _. calls_reads) in
    let later = reads_both queue_at (λ _ rest. both (calls_at rest) (λ _. calls_at)) (λ n. n < QUEUES) (λ _ p. (p.0 ≤ MOST_CALLS) × (p.1 ≤ MOST_CALLS)) (to_be_bytes w16) (λ p. to_be_bytes w64 p.0 ++ to_be_bytes w64 p.1) queue_reads (λ _ _. last) in
    let all = reads_both site_at (λ _ rest. both (queue_at rest) (λ _ rest. both (calls_at rest) (λ _. calls_at))) IsSite (λ _ p. (p.0 < QUEUES) × ((p.1.0 ≤ MOST_CALLS) × (p.1.1 ≤ MOST_CALLS))) byte (λ p. to_be_bytes w16 p.0 ++ (to_be_bytes w64 p.1.0 ++ to_be_bytes w64 p.1.1)) site_reads (λ _ _. later) in
    let within = reads_made (λ bytes. both (site_at bytes) (λ _ rest. both (queue_at rest) (λ _ rest. both (calls_at rest) (λ _. calls_at)))) (λ p. IsSite p.0 × ((p.1.0 < QUEUES) × ((p.1.1.0 ≤ MOST_CALLS) × (p.1.1.1 ≤ MOST_CALLS)))) (λ p. byte p.0 ++ (to_be_bytes w16 p.1.0 ++ (to_be_bytes w64 p.1.1.0 ++ to_be_bytes w64 p.1.1.1))) IsWithin total_bytes (λ p. (record { site = p.0; queue = p.1.0 }, record { completed = p.1.1.0; abandoned = p.1.1.1 })) (λ t. (t.0.site, (t.0.queue, (t.1.completed, t.1.abandoned)))) all
    (λ p g. (record { site = g.0; queue = g.1.0; completed = g.1.1.0; abandoned = g.1.1.1 }, refl))
    (λ t g. ((g.site, (g.queue, (g.completed, g.abandoned))), refl, refl)) in
    reads_good total_at (λ total. IsWithin total × (not (is_zero total.1) ≡ true)) (λ total. IsTotal total.0 total.1) total_bytes
    (reads_tested (λ bytes. made (λ p. (record { site = p.0; queue = p.1.0 }, record { completed = p.1.1.0; abandoned = p.1.1.1 })) (both (site_at bytes) (λ _ rest. both (queue_at rest) (λ _ rest. both (calls_at rest) (λ _. calls_at))))) IsWithin total_bytes (λ total. not (is_zero total.1)) BadRange within)
    (λ t g. record { site = g.0.site; queue = g.0.queue; completed = g.0.completed; abandoned = g.0.abandoned; counted = counted t.1 g.1 })
    (λ t g. (record { site = g.site; queue = g.queue; completed = g.completed; abandoned = g.abandoned }, not_zero t.1 g.counted))
