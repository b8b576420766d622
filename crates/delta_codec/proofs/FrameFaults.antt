-- Which fault bytes have that begin with no frame.
use Rattle.std.proofs.Common.{◌≡◌, ◌≢◌, ◌⊎◌, ℕ, ◌<◌, ◌≤◌, ◌+◌, Bool, true, false, ◌&&◌, cond, ltb, List, [], ◌∷◌, ◌++◌, length, take, drop, Result, Ok, Err, refl, sym, ap, ◌∙◌, inl, inr, arith}
use Rattle.std.specs.Prelude.{◌==◌}
use Rattle.std.specs.FinMap as map
use Rattle.std.specs.FinSet as set
use Rattle.std.specs.Int.{w32, from_be_bytes}
use Rattle.std.proofs.lemmas.Bool.{cases_Bool, cases_lt, le-ltb, lt-ltb}
use Rattle.std.proofs.lemmas.Bool.Decides.{nat_tests}
use Rattle.std.proofs.lemmas.List.{nil_from_length}
use Rattle.dots.specs.DotSets.{Run}
use Rattle.dots.specs.Orders.{dot_cmp}
use Rattle.member_orset.specs.Members.{Holding}
use Rattle.delta_codec.specs.declared.decode_fault.DecodeFault.{DecodeFault}
use Rattle.delta_codec.specs.declared.decode_fault.DecodeFault.TheVariants.{BadMagic, BadRange, BadVersion, TooLarge, Truncated}
use Rattle.delta_codec.specs.declared.limits.TheConstants.{LEAST_LENGTH, MOST_LENGTH}
use Rattle.delta_codec.specs.Faults.{After, CellsFail, ContentFails, HasFault, IsNumber4, Lacks, RunsFail, TotalsFail, number4}
use Rattle.delta_codec.specs.Frames.{AreCells, AreRuns, AreTotals, Heading, IsHeading, IsVersion, heading_bytes, magic}
use Rattle.delta_codec.specs.Parts.{byte, cell_bytes, list_bytes, run_bytes, total_bytes}
use Rattle.delta_codec.specs.Reading.{◌>>=◌, Kept, Read, cells_at, content_in, ended, heading_at, is_version, kept_at, kept_in, known_of, live_of, made, magic_at, runs_at, totals_at, totals_of, version_at, within_at}
use Rattle.delta_codec.proofs.CellFaults.{heading_reports}
use Rattle.delta_codec.proofs.CellLaws.{heading_reads}
use Rattle.delta_codec.proofs.ContentLaws.{cells_known, known_cells, magic_reads, version_reads}
use Rattle.delta_codec.proofs.ListFaults.{cells_report, runs_report, totals_report}
use Rattle.delta_codec.proofs.ListLaws.{AreCellsOf, cells_reads, runs_reads, totals_reads}
use Rattle.delta_codec.proofs.PartFaults.{HasOneFault, Reports, bind_err, fault_is, guard_err, last_err, reports_by, reports_kept, reports_lacks, reports_then}
use Rattle.delta_codec.proofs.PartLaws.{IsBytes, IsBytes_take, Reads, number4_reads, reads_good}

-- ---- magic and version

abbrev IsMagic : List ℕ → Type 0
IsMagic letters = letters ≡ magic

pub one_magic : HasOneFault BadMagic magic_at
unfolding magic_at
one_magic [] fault e = sym (fault_is {A = List ℕ × List ℕ} BadMagic fault e)
one_magic (q ∷ []) fault e = sym (fault_is {A = List ℕ × List ℕ} BadMagic fault e)
one_magic (q ∷ d ∷ rest) fault e = let found : List ℕ × List ℕ = (magic, rest) in (last_err ((q == 81) && (d == 68)) found BadMagic fault e).1

magic_reports : Reports magic_at (Lacks IsMagic (λ letters. letters) BadMagic)
magic_reports = reports_lacks magic_at IsMagic (λ letters. letters) BadMagic magic_reads one_magic

pub one_version : HasOneFault BadVersion version_at
unfolding version_at
one_version [] fault e = sym (fault_is {A = ℕ × List ℕ} BadVersion fault e)
one_version (n ∷ rest) fault e = let found : ℕ × List ℕ = (n, rest) in (last_err (is_version n) found BadVersion fault e).1

version_reports : Reports version_at (Lacks IsVersion byte BadVersion)
version_reports = reports_lacks version_at IsVersion byte BadVersion version_reads one_version

-- ---- the end

zero_is : (n : ℕ) → (n == 0) ≡ true → n ≡ 0
zero_is n h = grind (arith, nat_tests)

some_left : (rest : List ℕ) → (length rest == 0) ≡ false → rest ≢ []
some_left rest some none = let empty : (length rest == 0) ≡ true = ap (λ (x : List ℕ). length x == 0) none in absurd cc

left_some : (rest : List ℕ) → rest ≢ [] → (length rest == 0) ≡ false
left_some rest some =
    elim (cases_Bool (length rest == 0)) [
      | inl none ↦ absurd (some (nil_from_length rest (zero_is (length rest) none)))
      | inr is ↦ is
    ]

-- bytes are left
abbrev MoreFollow : DecodeFault → List ℕ → Type 0
MoreFollow fault rest = (rest ≢ []) × (fault ≡ BadRange)

ended_reports : {A : Type 0} (x : A) → Reports (λ rest. ended (x, rest)) MoreFollow
ended_reports x = record {
  only = λ rest fault fits e. let some = last_err (length rest == 0) x BadRange fault e in (some_left rest some.0, some.1);
  always = λ rest fault fits h. rw (left_some rest h.0, h.1) refl;
}

-- ---- what stands behind the length, from its end to its front

abbrev totals_step : Heading → set.FinSet dot_cmp → map.FinMap dot_cmp Holding → List ℕ → Result Kept DecodeFault
totals_step heading known live rest = made totals_of (totals_at rest) >>= λ totals. ended ((heading, (known, (live, totals.0))), totals.1)

abbrev cells_step : ℕ → Heading → set.FinSet dot_cmp → List ℕ → Result Kept DecodeFault
cells_step version heading known rest = made live_of (cells_at version (set.contains known) rest) >>= λ live. totals_step heading known live.0 live.1

abbrev runs_step : ℕ → Heading → List ℕ → Result Kept DecodeFault
runs_step version heading rest = made known_of (runs_at rest) >>= λ known. cells_step version heading known.0 known.1

abbrev heading_step : ℕ → List ℕ → Result Kept DecodeFault
heading_step version rest = heading_at rest >>= λ heading. runs_step version heading.0 heading.1

abbrev version_step : List ℕ → Result Kept DecodeFault
version_step rest = version_at rest >>= λ version. heading_step version.0 version.1

abbrev TotalsStop : DecodeFault → List ℕ → Type 0
TotalsStop fault totals = TotalsFail fault totals ⊎ After AreTotals (list_bytes total_bytes) (λ _ rest. MoreFollow fault rest) totals

abbrev CellsStop : ℕ → List Run → DecodeFault → List ℕ → Type 0
CellsStop version runs fault cells = CellsFail version runs fault cells ⊎ After (AreCells version runs) (list_bytes cell_bytes) (λ _ totals. TotalsStop fault totals) cells

abbrev RunsStop : ℕ → DecodeFault → List ℕ → Type 0
RunsStop version fault runs = RunsFail fault runs ⊎ After AreRuns (list_bytes run_bytes) (λ known cells. CellsStop version known fault cells) runs

abbrev HeadingStop : ℕ → DecodeFault → List ℕ → Type 0
HeadingStop version fault heading = Lacks IsHeading heading_bytes BadRange fault heading ⊎ After IsHeading heading_bytes (λ _ runs. RunsStop version fault runs) heading

abbrev VersionStop : DecodeFault → List ℕ → Type 0
VersionStop fault versioned = Lacks IsVersion byte BadVersion fault versioned ⊎ After IsVersion byte (λ version heading. HeadingStop version fault heading) versioned

totals_stop : (heading : Heading) (known : set.FinSet dot_cmp) (live : map.FinMap dot_cmp Holding) → Reports (totals_step heading known live) TotalsStop
totals_stop heading known live = reports_kept totals_at totals_of (λ totals rest. ended ((heading, (known, (live, totals))), rest)) AreTotals (list_bytes total_bytes) TotalsFail (λ fault _ rest. MoreFollow fault rest) totals_reads totals_report (λ totals _. ended_reports (heading, (known, (live, totals_of totals))))

cells_of_runs_reads : (version : ℕ) (runs : List Run) → Reads (cells_at version (set.contains (known_of runs))) (AreCells version runs) (list_bytes cell_bytes)
cells_of_runs_reads version runs = reads_good (cells_at version (set.contains (known_of runs))) (AreCellsOf version (set.contains (known_of runs))) (AreCells version runs) (list_bytes cell_bytes) (cells_reads version (set.contains (known_of runs))) (known_cells version runs) (cells_known version runs)

cells_stop : (version : ℕ) (heading : Heading) (runs : List Run) → Reports (cells_step version heading (known_of runs)) (CellsStop version runs)
cells_stop version heading runs = reports_kept (cells_at version (set.contains (known_of runs))) live_of (totals_step heading (known_of runs)) (AreCells version runs) (list_bytes cell_bytes) (CellsFail version runs) (λ fault _ rest. TotalsStop fault rest) (cells_of_runs_reads version runs) (cells_report version runs) (λ cells _. totals_stop heading (known_of runs) (live_of cells))

runs_stop : (version : ℕ) (heading : Heading) → Reports (runs_step version heading) (RunsStop version)
runs_stop version heading = reports_kept runs_at known_of (cells_step version heading) AreRuns (list_bytes run_bytes) RunsFail (λ fault runs rest. CellsStop version runs fault rest) runs_reads runs_report (λ runs _. cells_stop version heading runs)

heading_stop : (version : ℕ) → Reports (heading_step version) (HeadingStop version)
heading_stop version = reports_then heading_at (runs_step version) IsHeading heading_bytes (Lacks IsHeading heading_bytes BadRange) (λ fault _ rest. RunsStop version fault rest) heading_reads heading_reports (λ heading _. runs_stop version heading)

version_stop : Reports version_step VersionStop
version_stop = reports_then version_at heading_step IsVersion byte (Lacks IsVersion byte BadVersion) (λ fault version rest. HeadingStop version fault rest) version_reads version_reports (λ version _. heading_stop version)

pub content_reports : Reports kept_at ContentFails
unfolding kept_at
content_reports = reports_then magic_at (λ _ rest. version_step rest) IsMagic (λ letters. letters) (Lacks IsMagic (λ letters. letters) BadMagic) (λ fault _ rest. VersionStop fault rest) magic_reads magic_reports (λ _ _. version_stop)

-- ---- the length

-- four bytes of a length
abbrev length_at : List ℕ → Read ℕ
length_at bytes = cond (ltb (length bytes) 4) (Err Truncated) (Ok (from_be_bytes w32 (take 4 bytes), drop 4 bytes))

other_rule : {A : Type 0} (b : Bool) (rule other : DecodeFault) (x y : A) → cond b (Err rule) (Ok x) ≡ Ok y → cond b (Err other) (Ok x) ≡ Ok y
other_rule true rule other x y e = absurd cc
other_rule false rule other x y e = e

length_reads : Reads length_at IsNumber4 number4
length_reads = record {
  takes = λ bytes n rest fits e. number4_reads.takes bytes n rest fits (other_rule (ltb (length bytes) 4) Truncated BadRange (from_be_bytes w32 (take 4 bytes), drop 4 bytes) (n, rest) e);
  again = λ n rest good.
      let bytes = number4 n ++ rest in
      other_rule (ltb (length bytes) 4) BadRange Truncated (from_be_bytes w32 (take 4 bytes), drop 4 bytes) (n, rest) (number4_reads.again n rest good);
}

one_length : HasOneFault Truncated length_at
one_length bytes fault e =
    let found : ℕ × List ℕ = (from_be_bytes w32 (take 4 bytes), drop 4 bytes) in
    elim (guard_err (ltb (length bytes) 4) Truncated fault (Ok found) e) [
      | inl short ↦ short.1
      | inr there ↦ absurd (let never = there.1 in cc)
    ]

length_reports : Reports length_at (Lacks IsNumber4 number4 Truncated)
length_reports = reports_lacks length_at IsNumber4 number4 Truncated length_reads one_length

-- ---- what stands behind it

-- what is kept of the bytes, and their number
abbrev pub counted : List ℕ → Result (Kept × ℕ) DecodeFault
counted content = kept_at content >>= λ kept. Ok (kept, 4 + length content)

abbrev rest_step : ℕ → List ℕ → Result (Kept × ℕ) DecodeFault
rest_step len rest = within_at len rest >>= counted

abbrev RestFails : DecodeFault → ℕ → List ℕ → Type 0
RestFails fault len rest =
    ((MOST_LENGTH < len) × (fault ≡ TooLarge))
    ⊎ ((len < LEAST_LENGTH) × (fault ≡ BadRange))
    ⊎ ((LEAST_LENGTH ≤ len) × (len ≤ MOST_LENGTH) × (length rest < len) × (fault ≡ Truncated))
    ⊎ ((LEAST_LENGTH ≤ len) × (len ≤ MOST_LENGTH) × (len ≤ length rest) × ContentFails fault (take len rest))

too_large : (len : ℕ) (rest : List ℕ) → MOST_LENGTH < len → rest_step len rest ≡ Err TooLarge
unfolding within_at
too_large len rest large = rw (lt-ltb _ _ large) refl

too_small : (len : ℕ) (rest : List ℕ) → len < LEAST_LENGTH → rest_step len rest ≡ Err BadRange
unfolding within_at
too_small len rest small = let few : len ≤ MOST_LENGTH = omega (arith, small) in rw (le-ltb _ _ few, lt-ltb _ _ small) refl

too_short : (len : ℕ) (rest : List ℕ) → LEAST_LENGTH ≤ len → len ≤ MOST_LENGTH → length rest < len → rest_step len rest ≡ Err Truncated
unfolding within_at
too_short len rest least most short = rw (le-ltb _ _ most, le-ltb _ _ least, lt-ltb _ _ short) refl

all_there : (len : ℕ) (rest : List ℕ) → LEAST_LENGTH ≤ len → len ≤ MOST_LENGTH → len ≤ length rest → rest_step len rest ≡ counted (take len rest)
unfolding within_at
all_there len rest least most there = rw (le-ltb _ _ most, le-ltb _ _ least, le-ltb _ _ there) refl

pub counted_fails : (content : List ℕ) (fault : DecodeFault) → counted content ≡ Err fault → kept_at content ≡ Err fault
counted_fails content fault e =
    elim (bind_err (kept_at content) (λ kept. Ok (kept, 4 + length content)) fault e) [
      | inl here ↦ here
      | inr later ↦ absurd (let never = later.2 in cc)
    ]

rest_only : (len : ℕ) (rest : List ℕ) (fault : DecodeFault) → IsBytes rest → rest_step len rest ≡ Err fault → RestFails fault len rest
rest_only len rest fault fits e =
    elim (cases_lt MOST_LENGTH len) [
      | inl large ↦ inl (large, sym (fault_is {A = Kept × ℕ} TooLarge fault (sym (too_large len rest large) ∙ e)))
      | inr most ↦ elim (cases_lt len LEAST_LENGTH) [
        | inl small ↦ inr (inl (small, sym (fault_is {A = Kept × ℕ} BadRange fault (sym (too_small len rest small) ∙ e))))
        | inr least ↦ elim (cases_lt (length rest) len) [
          | inl short ↦ inr (inr (inl (least, most, short, sym (fault_is {A = Kept × ℕ} Truncated fault (sym (too_short len rest least most short) ∙ e)))))
          | inr there ↦ inr (inr (inr (least, most, there, content_reports.only (take len rest) fault (IsBytes_take len rest fits) (counted_fails (take len rest) fault (sym (all_there len rest least most there) ∙ e)))))
        ]
      ]
    ]

rest_always : (len : ℕ) (rest : List ℕ) (fault : DecodeFault) → IsBytes rest → RestFails fault len rest → rest_step len rest ≡ Err fault
rest_always len rest fault fits h =
    elim h [
      | inl large ↦ rw large.1 (too_large len rest large.0)
      | inr more ↦ elim more [
        | inl small ↦ rw small.1 (too_small len rest small.0)
        | inr more ↦ elim more [
          | inl short ↦ rw short.3 (too_short len rest short.0 short.1 short.2)
          | inr there ↦ all_there len rest there.0 there.1 there.2 ∙ rw (content_reports.always (take len rest) fault (IsBytes_take len rest fits) there.3) refl
        ]
      ]
    ]

length_then : {A B D : Type 0} (b : Bool) (rule : DecodeFault) (x : A) (f : A → Result B DecodeFault) (g : B → Result D DecodeFault) → (cond b (Err rule) (f x) >>= g) ≡ (cond b (Err rule) (Ok x) >>= λ y. f y >>= g)
length_then true rule x f g = refl
length_then false rule x f g = refl

-- bytes have the fault with which reading them fails
pub frame_reports : Reports kept_in (λ fault bytes. HasFault bytes fault)
unfolding kept_in content_in
frame_reports = reports_by kept_in (λ bytes. length_at bytes >>= λ x. rest_step x.0 x.1) (λ fault bytes. HasFault bytes fault) (λ bytes. length_then (ltb (length bytes) 4) Truncated (from_be_bytes w32 (take 4 bytes), drop 4 bytes) (λ x. within_at x.0 x.1) counted)
    (reports_then length_at rest_step IsNumber4 number4 (Lacks IsNumber4 number4 Truncated) RestFails length_reads length_reports (λ len _. record { only = λ rest fault fits e. rest_only len rest fault fits e; always = λ rest fault fits h. rest_always len rest fault fits h }))
