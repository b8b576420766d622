-- Which fault a run has, a cell, or totals, each by itself.
use Rattle.std.proofs.Common.{ℕ, ◌&&◌, not, arith}
use Rattle.std.specs.Prelude.{nat_le, nat_lt}
use Rattle.std.specs.Int.{w16, w64}
use Rattle.dots.specs.declared.limits.TheConstants.{MOST_CALLS, MOST_COUNT, QUEUES}
use Rattle.dots.specs.CountedCalls.{is_zero}
use Rattle.operations.specs.Totals.{IsTotal}
use Rattle.dots.specs.Values.{IsName}
use Rattle.causal_context.specs.Contexts.{IsRunWithinLimits}
use Rattle.delta_codec.specs.declared.decode_fault.DecodeFault.TheVariants.{BadRange}
use Rattle.delta_codec.specs.Faults.{CellFails, FieldsFail, IsFlags, IsPlace, Lacks, TextFails, place_bytes}
use Rattle.delta_codec.specs.Frames.{IsHeading, heading_bytes}
use Rattle.delta_codec.specs.Parts.{byte, most_flags, run_bytes, text_bytes, total_bytes}
use Rattle.delta_codec.specs.Reading.{both, byte_at, calls_at, cell_at, count_at, dot_at, fields_at, flags_at, heading_at, last_at, made, number_at, place_at, queue_at, run_at, set_fields_at, site_at, text_at, total_at}
use Rattle.delta_codec.proofs.CellLaws.{heading_reads, place_reads, run_reads, total_reads}
use Rattle.delta_codec.proofs.FieldFaults.{one_count, one_site, set_fields_report, text_reports}
use Rattle.delta_codec.proofs.FieldLaws.{IsTextOf, flags_reads, text_reads}
use Rattle.delta_codec.proofs.PartFaults.{HasOneFault, Reports, one_both, one_byte, one_made, one_number, one_tested, reports_both, reports_lacks, reports_made}
use Rattle.delta_codec.proofs.PartLaws.{Reads, reads_good}

-- ---- numbers

one_last : (first : ℕ) → HasOneFault BadRange (last_at first)
unfolding last_at
one_last first = one_tested (number_at w64) (λ n. nat_le first n && nat_le n MOST_COUNT) BadRange (one_number w64)

one_queue : HasOneFault BadRange queue_at
unfolding queue_at
one_queue = one_tested (number_at w16) (λ n. nat_lt n QUEUES) BadRange (one_number w16)

one_calls : HasOneFault BadRange calls_at
unfolding calls_at
one_calls = one_tested (number_at w64) (λ n. nat_le n MOST_CALLS) BadRange (one_number w64)

one_flags : (version : ℕ) → HasOneFault BadRange (flags_at version)
unfolding flags_at
one_flags version = one_tested byte_at (λ n. nat_le 1 n && nat_le n (most_flags version)) BadRange one_byte

-- ---- runs, headings, totals

one_run : HasOneFault BadRange run_at
unfolding run_at
one_run = one_made (λ p. record { site = p.0; first = p.1.0; last = p.1.1 }) (λ bytes. both (site_at bytes) (λ _ rest. both (count_at rest) last_at)) BadRange (one_both site_at (λ _ rest. both (count_at rest) last_at) BadRange one_site (λ _. one_both count_at last_at BadRange one_count one_last))

pub run_reports : Reports run_at (Lacks IsRunWithinLimits run_bytes BadRange)
run_reports = reports_lacks run_at IsRunWithinLimits run_bytes BadRange run_reads one_run

one_heading : HasOneFault BadRange heading_at
unfolding heading_at
one_heading = one_made (λ p. record { maker = p.0; number = p.1 }) (λ bytes. both (site_at bytes) (λ _. count_at)) BadRange (one_both site_at (λ _. count_at) BadRange one_site (λ _. one_count))

pub heading_reports : Reports heading_at (Lacks IsHeading heading_bytes BadRange)
heading_reports = reports_lacks heading_at IsHeading heading_bytes BadRange heading_reads one_heading

one_total : HasOneFault BadRange total_at
unfolding total_at
one_total =
    let last = one_both calls_at (λ _. calls_at) BadRange one_calls (λ _. one_calls) in
    let later = one_both queue_at (λ _ rest. both (calls_at rest) (λ _. calls_at)) BadRange one_queue (λ _. last) in
    let all = one_both site_at (λ _ rest. both (queue_at rest) (λ _ rest. both (calls_at rest) (λ _. calls_at))) BadRange one_site (λ _. later) in
    one_tested (λ bytes. made (λ p. (record { site = p.0; queue = p.1.0 }, record { completed = p.1.1.0; abandoned = p.1.1.1 })) (both (site_at bytes) (λ _ rest. both (queue_at rest) (λ _ rest. both (calls_at rest) (λ _. calls_at))))) (λ total. not (is_zero total.1)) BadRange
    (one_made (λ p. (record { site = p.0; queue = p.1.0 }, record { completed = p.1.1.0; abandoned = p.1.1.1 })) (λ bytes. both (site_at bytes) (λ _ rest. both (queue_at rest) (λ _ rest. both (calls_at rest) (λ _. calls_at)))) BadRange all)

pub total_reports : Reports total_at (Lacks (λ total. IsTotal total.0 total.1) total_bytes BadRange)
total_reports = reports_lacks total_at (λ total. IsTotal total.0 total.1) total_bytes BadRange total_reads one_total

-- ---- cells

one_dot : HasOneFault BadRange dot_at
unfolding dot_at
one_dot = one_made (λ p. record { site = p.0; count = p.1 }) (λ bytes. both (site_at bytes) (λ _. count_at)) BadRange (one_both site_at (λ _. count_at) BadRange one_site (λ _. one_count))

one_place : HasOneFault BadRange place_at
unfolding place_at
one_place = one_made (λ p. record { dot = p.0; queue = p.1 }) (λ bytes. both (dot_at bytes) (λ _. queue_at)) BadRange (one_both dot_at (λ _. queue_at) BadRange one_dot (λ _. one_queue))

place_reports : Reports place_at (Lacks IsPlace place_bytes BadRange)
place_reports = reports_lacks place_at IsPlace place_bytes BadRange place_reads one_place

flags_report : (version : ℕ) → Reports (flags_at version) (Lacks (IsFlags version) byte BadRange)
flags_report version = reports_lacks (flags_at version) (IsFlags version) byte BadRange (flags_reads version) (one_flags version)

interface_reads : Reads (text_at 1) IsName text_bytes
interface_reads = reads_good (text_at 1) (IsTextOf 1) IsName text_bytes (text_reads 1) (λ text g. record { text = g.0; present = omega (arith, g.1) }) (λ text g. (g.text, omega (arith, g.present)))

pub cell_reports : (version : ℕ) → Reports (cell_at version) (CellFails version)
unfolding cell_at fields_at
cell_reports version =
    let fields = reports_both (flags_at version) set_fields_at (IsFlags version) byte (Lacks (IsFlags version) byte BadRange) FieldsFail (flags_reads version) (flags_report version) (λ flags _. set_fields_report flags) in
    let behind = reports_made (λ p. p.1) (λ bytes. both (flags_at version bytes) set_fields_at) _ fields in
    let later = reports_both (text_at 1) (λ _. fields_at version) IsName text_bytes (TextFails 1) _ interface_reads (text_reports 1) (λ _ _. behind) in
    let all = reports_both place_at (λ _ rest. both (text_at 1 rest) (λ _. fields_at version)) IsPlace place_bytes (Lacks IsPlace place_bytes BadRange) _ place_reads place_reports (λ _ _. later) in
    reports_made (λ p. (p.0.dot, (record { queue = p.0.queue; interface = p.1.0 }, p.1.1))) (λ bytes. both (place_at bytes) (λ _ rest. both (text_at 1 rest) (λ _. fields_at version))) (CellFails version) all
