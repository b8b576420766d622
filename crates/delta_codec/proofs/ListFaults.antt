-- Which fault a list has.
use Rattle.std.proofs.Common.{◌≡◌, ◌⊎◌, ℕ, zero, suc, ◌<◌, ◌≤◌, Bool, true, false, cond, List, [], ◌∷◌, ◌++◌, length, Option, Some, None, IfSome, Result, Ok, Err, refl, sym, ap, subst, ◌∙◌, append_assoc, inl, inr, arith}
use Rattle.std.specs.Prelude.{IsTrue, nat_le}
use Rattle.std.specs.List.{AllByRecursion, flat_map, last_or}
use Rattle.std.specs.FinSet as set
use Rattle.std.specs.Option.{option_map}
use Rattle.std.specs.Int.{w32}
use Rattle.dots.specs.declared.limits.TheConstants.{MOST_LIVE, MOST_RUNS}
use Rattle.dots.specs.DotSets.{Run, in_runs, is_apart}
use Rattle.operations.specs.Totals.{IsTotal, Key}
use Rattle.dots.specs.Values.{Dot}
use Rattle.causal_context.specs.Contexts.{IsRunWithinLimits}
use Rattle.delta_codec.specs.declared.decode_fault.DecodeFault.{DecodeFault}
use Rattle.delta_codec.specs.declared.decode_fault.DecodeFault.TheVariants.{BadOrder, BadRange, TooLarge}
use Rattle.delta_codec.specs.declared.limits.TheConstants.{MOST_TOTALS}
use Rattle.delta_codec.specs.Faults.{After, CellFails, CellsFail, ElementsFail, FollowsLast, IsNumber4, Lacks, ListFails, NextCellFails, RunFails, RunsFail, TotalFails, TotalsFail, is_cell_before, is_total_before, number4}
use Rattle.delta_codec.specs.Frames.{AreCells, AreRuns, AreTotals}
use Rattle.delta_codec.specs.Parts.{CellParts, IsCell, TotalParts, cell_bytes, run_bytes, total_bytes}
use Rattle.delta_codec.specs.Reading.{◌>>=◌, Elements, accepted, cell_elements, cells_at, elements_at, is_dot_before, is_key_before, known_of, list_at, next_at, number_at, or_else, order_fault, run_elements, runs_at, size_at, total_elements, totals_at, unless}
use Rattle.delta_codec.proofs.CellFaults.{cell_reports, run_reports, total_reports}
use Rattle.delta_codec.proofs.CellLaws.{cell_reads, run_reads, total_reads}
use Rattle.delta_codec.proofs.ContentLaws.{cells_known, contains_known_of, known_cells}
use Rattle.delta_codec.proofs.ListLaws.{AreElements, Chain, last_key, cells_are_read, next_takes, read_are_cells, read_are_runs, read_are_totals, runs_are_read, totals_are_read}
use Rattle.delta_codec.proofs.PartFaults.{IsBytes_behind, Reports, bind_err, is_over, is_under, one_number, over, reports_by, reports_lacks, reports_then, test_err, under}
use Rattle.delta_codec.proofs.PartLaws.{IsBytes, Reads, number4_reads}

-- ---- elements

-- some elements were read, and then one could not be
record Stopped {A K : Type 0} (e : Elements A K) (G : A → Type 0) (s : A → List ℕ) (n : ℕ) (last : Option K) (bytes : List ℕ) (fault : DecodeFault) : Type 0 where
  pub before : List A
  pub rest : List ℕ
  pub fewer : length before < n
  pub each : AllByRecursion G before
  pub chain : Chain e last before
  pub spelled : bytes ≡ flat_map s before ++ rest
  pub rest_fits : IsBytes rest
  pub stops : next_at e (last_key e last before) rest ≡ Err fault

elements_stop : {A K : Type 0} (e : Elements A K) (G : A → Type 0) (s : A → List ℕ) → Reads e.at G s → (n : ℕ) (last : Option K) (bytes : List ℕ) (fault : DecodeFault) → IsBytes bytes → elements_at e n last bytes ≡ Err fault → Stopped e G s n last bytes fault
unfolding elements_at
elements_stop e G s r zero last bytes fault fits h = absurd cc
elements_stop e G s r (suc n) last bytes fault fits h =
    elim (bind_err (next_at e last bytes) (λ x. elements_at e n (Some (e.key x.0)) x.1 >>= λ xs. Ok (x.0 ∷ xs.0, xs.1)) fault h) [
      | inl here ↦ record { before = []; rest = bytes; fewer = omega arith; each = tt; chain = tt; spelled = refl; rest_fits = fits; stops = here }
      | inr more ↦
          let first = next_takes e G s r last bytes more.0.0 more.0.1 fits more.1 in
          elim (bind_err (elements_at e n (Some (e.key more.0.0)) more.0.1) (λ xs. Ok (more.0.0 ∷ xs.0, xs.1)) fault more.2) [
            | inl later ↦
                let others = elements_stop e G s r n (Some (e.key more.0.0)) more.0.1 fault first.0.rest_fits later in
                record {
                  before = more.0.0 ∷ others.before;
                  rest = others.rest;
                  fewer = omega (arith, others.fewer);
                  each = (first.0.good, others.each);
                  chain = (first.1, others.chain);
                  spelled = first.0.parts ∙ ap (λ (x : List ℕ). s more.0.0 ++ x) others.spelled ∙ sym (append_assoc (s more.0.0) (flat_map s others.before) others.rest);
                  rest_fits = others.rest_fits;
                  stops = others.stops;
                }
            | inr all ↦ absurd (let never = all.2 in cc)
          ]
    ]

elements_fail : {A K : Type 0} (e : Elements A K) (G : A → Type 0) (s : A → List ℕ) → Reads e.at G s → (before : List A) (n : ℕ) (last : Option K) (rest : List ℕ) (fault : DecodeFault) → length before < n → AllByRecursion G before → Chain e last before → next_at e (last_key e last before) rest ≡ Err fault → elements_at e n last (flat_map s before ++ rest) ≡ Err fault
unfolding elements_at
elements_fail e G s r before zero last rest fault fewer each chain h = absurd (omega (arith, fewer))
elements_fail e G s r [] (suc n) last rest fault fewer each chain h = rw h refl
elements_fail e G s r (x ∷ xs) (suc n) last rest fault fewer each chain h =
    let regrouped : flat_map s (x ∷ xs) ++ rest ≡ s x ++ (flat_map s xs ++ rest) = append_assoc (s x) (flat_map s xs) rest in
    let one : e.at (flat_map s (x ∷ xs) ++ rest) ≡ Ok (x, flat_map s xs ++ rest) = ap e.at regrouped ∙ r.again x (flat_map s xs ++ rest) each.0 in
    let others = elements_fail e G s r xs n (Some (e.key x)) rest fault (omega (arith, fewer)) each.1 chain.1 h in
    rw (one, chain.0, others) refl

-- the last of them has the last key
last_key_is : {A K : Type 0} (e : Elements A K) (o : Option A) (xs : List A) → last_key e (option_map e.key o) xs ≡ option_map e.key (last_or o xs)
last_key_is e o [] = refl
last_key_is e o (x ∷ xs) = last_key_is e (Some x) xs

-- why an element can't stand behind others
abbrev fault_behind : {A K : Type 0} → Elements A K → List A → A → Option DecodeFault
fault_behind e before x = e.fault_of (option_map e.key (last_or None before)) (e.key x)

refused : {A : Type 0} (o : Option DecodeFault) (x : A) (fault : DecodeFault) → accepted o x ≡ Err fault → o ≡ Some fault
refused None x fault h = absurd cc
refused (Some d) x fault h = let same : d ≡ fault = cc in ap (λ (y : DecodeFault). Some y) same

-- the next element is at fault, or it can't stand behind those before
next_reports : {A K : Type 0} (e : Elements A K) (G : A → Type 0) (s : A → List ℕ) (F : DecodeFault → List ℕ → Type 0) (Breaks : DecodeFault → List A → A → Type 0) → Reads e.at G s → Reports e.at F
    → ((fault : DecodeFault) (before : List A) (x : A) → fault_behind e before x ≡ Some fault → Breaks fault before x) → ((fault : DecodeFault) (before : List A) (x : A) → Breaks fault before x → fault_behind e before x ≡ Some fault)
    → (before : List A) → Reports (next_at e (last_key e None before)) (λ fault rest. F fault rest ⊎ After G s (λ x _. Breaks fault before x) rest)
next_reports e G s F Breaks r t there back before =
    let same = last_key_is e None before in
    reports_then e.at (λ x rest. accepted (e.fault_of (last_key e None before) (e.key x)) (x, rest)) G s F (λ fault x _. Breaks fault before x) r t (λ x g. record {
      only = λ rest fault fits h. there fault before x (ap (λ k. e.fault_of k (e.key x)) (sym same) ∙ refused (e.fault_of (last_key e None before) (e.key x)) (x, rest) fault h);
      always = λ rest fault fits h. rw (ap (λ k. e.fault_of k (e.key x)) same ∙ back fault before x h) refl;
    })

-- ---- lists

regrouped : {A B D : Type 0} (r : Result A DecodeFault) (f : A → Result B DecodeFault) (g : B → Result D DecodeFault) → ((r >>= f) >>= g) ≡ (r >>= λ x. f x >>= g)
regrouped (Ok x) f g = refl
regrouped (Err fault) f g = refl

-- that number of elements, if they aren't too many
abbrev counted_at : {A K : Type 0} → Elements A K → ℕ → ℕ → List ℕ → Result (List A × List ℕ) DecodeFault
counted_at e most n rest = let found : ℕ × List ℕ = (n, rest) in cond (nat_le n most) (Ok found) (Err TooLarge) >>= λ m. elements_at e m.0 None m.1

abbrev CountedFail : {A : Type 0} → (List A → Type 0) → (A → List ℕ) → ℕ → (DecodeFault → List A → List ℕ → Type 0) → DecodeFault → ℕ → List ℕ → Type 0
CountedFail IsGood s most NextFails fault n rest = ((most < n) × (fault ≡ TooLarge)) ⊎ ((n ≤ most) × ElementsFail IsGood s (NextFails fault) n rest)

module _ {A K : Type 0} (e : Elements A K) (G : A → Type 0) (s : A → List ℕ) (most : ℕ) (IsGood : List A → Type 0) (NextFails : DecodeFault → List A → List ℕ → Type 0) (r : Reads e.at G s) (nexts : (before : List A) → Reports (next_at e (last_key e None before)) (λ fault rest. NextFails fault before rest)) (there : (xs : List A) → AreElements e G most xs → IsGood xs) (back : (xs : List A) → IsGood xs → AreElements e G most xs) where
  counted_only : (n : ℕ) (rest : List ℕ) (fault : DecodeFault) → IsBytes rest → counted_at e most n rest ≡ Err fault → CountedFail IsGood s most NextFails fault n rest
  counted_only n rest fault fits h =
      let found : ℕ × List ℕ = (n, rest) in
      elim (test_err (nat_le n most) found TooLarge fault (λ m. elements_at e m.0 None m.1) h) [
        | inl many ↦ inl (over n most many.0, many.1)
        | inr few ↦
            let stopped = elements_stop e G s r n None rest fault fits few.1 in
            inr (
              under n most few.0,
              record {
                before = stopped.before;
                rest = stopped.rest;
                fewer = stopped.fewer;
                good = there stopped.before (omega (arith, stopped.fewer, under n most few.0), (stopped.each, stopped.chain));
                spelled = stopped.spelled;
                next = (nexts stopped.before).only stopped.rest fault stopped.rest_fits stopped.stops;
              },
            )
      ]

  counted_always : (n : ℕ) (rest : List ℕ) (fault : DecodeFault) → IsBytes rest → CountedFail IsGood s most NextFails fault n rest → counted_at e most n rest ≡ Err fault
  counted_always n rest fault fits h =
      elim h [
        | inl many ↦ rw (is_over n most many.0, many.1) refl
        | inr few ↦
            let f = few.1 in
            let good = back f.before f.good in
            let behind = IsBytes_behind (flat_map s f.before) f.rest (subst (λ (x : List ℕ). IsBytes x) f.spelled fits) in
            let fails = elements_fail e G s r f.before n None f.rest fault f.fewer good.1.0 good.1.1 ((nexts f.before).always f.rest fault behind f.next) in
            rw (is_under n most few.0) (ap (elements_at e n None) f.spelled ∙ fails)
      ]

  list_reports : Reports (list_at e most) (ListFails IsGood s most NextFails)
  unfolding list_at size_at
  list_reports = reports_by (list_at e most) (λ bytes. number_at w32 bytes >>= λ n. counted_at e most n.0 n.1) (ListFails IsGood s most NextFails) (λ bytes. regrouped (number_at w32 bytes) (λ x. cond (nat_le x.0 most) (Ok x) (Err TooLarge)) (λ m. elements_at e m.0 None m.1))
      (reports_then (number_at w32) (counted_at e most) IsNumber4 number4 (Lacks IsNumber4 number4 BadRange) (CountedFail IsGood s most NextFails) number4_reads (reports_lacks (number_at w32) IsNumber4 number4 BadRange number4_reads (one_number w32)) (λ n _. record { only = λ rest fault fits h. counted_only n rest fault fits h; always = λ rest fault fits h. counted_always n rest fault fits h }))

-- ---- order

not_true : (b : Bool) → b ≡ false → ¬ IsTrue b
not_true b is_false is_true = let both : true ≡ false = sym is_true ∙ is_false in absurd cc

false_of : (b : Bool) → ¬ IsTrue b → b ≡ false
false_of true not = absurd (not refl)
false_of false not = refl

unless_fails : (b : Bool) (rule fault : DecodeFault) → unless b rule ≡ Some fault → (b ≡ false) × (fault ≡ rule)
unless_fails true rule fault h = absurd cc
unless_fails false rule fault h = let same : rule ≡ fault = cc in (refl, sym same)

fails_unless : (b : Bool) (rule fault : DecodeFault) → b ≡ false → fault ≡ rule → unless b rule ≡ Some fault
fails_unless b rule fault is_false is = rw (is_false, is) refl

-- the last one, if there is one, lies before the next by this test
abbrev IsBehind : {A K : Type 0} → (A → K) → (K → K → Bool) → Option A → A → Type 0
IsBehind key follows last x = IfSome last (λ y. IsTrue (follows (key y) (key x)))

order_fails : {A K : Type 0} (key : A → K) (follows : K → K → Bool) (last : Option A) (x : A) (fault : DecodeFault) → order_fault follows (option_map key last) (key x) ≡ Some fault → ¬ IsBehind key follows last x × (fault ≡ BadOrder)
order_fails key follows None x fault h = absurd cc
order_fails key follows (Some y) x fault h = let fails = unless_fails (follows (key y) (key x)) BadOrder fault h in (not_true (follows (key y) (key x)) fails.0, fails.1)

fails_order : {A K : Type 0} (key : A → K) (follows : K → K → Bool) (last : Option A) (x : A) (fault : DecodeFault) → ¬ IsBehind key follows last x → fault ≡ BadOrder → order_fault follows (option_map key last) (key x) ≡ Some fault
fails_order key follows None x fault not is = absurd (not tt)
fails_order key follows (Some y) x fault not is = fails_unless (follows (key y) (key x)) BadOrder fault (false_of (follows (key y) (key x)) not) is

order_keeps : {A K : Type 0} (key : A → K) (follows : K → K → Bool) (last : Option A) (x : A) → order_fault follows (option_map key last) (key x) ≡ None → IsBehind key follows last x
order_keeps key follows None x h = tt
order_keeps key follows (Some y) x h = passed (follows (key y) (key x)) h
  where
    passed : (b : Bool) → unless b BadOrder ≡ None → b ≡ true
    passed true h = refl
    passed false h = absurd cc

keeps_order : {A K : Type 0} (key : A → K) (follows : K → K → Bool) (last : Option A) (x : A) → IsBehind key follows last x → order_fault follows (option_map key last) (key x) ≡ None
keeps_order key follows None x h = refl
keeps_order key follows (Some y) x h = ap (λ b. unless b BadOrder) h

-- ---- runs and totals

pub runs_report : Reports runs_at RunsFail
runs_report = list_reports run_elements IsRunWithinLimits run_bytes MOST_RUNS AreRuns RunFails run_reads
    (next_reports run_elements IsRunWithinLimits run_bytes (Lacks IsRunWithinLimits run_bytes BadRange) (λ fault before run. ¬ FollowsLast is_apart before run × (fault ≡ BadOrder)) run_reads run_reports
    (λ fault before run h. order_fails (λ (r : Run). r) is_apart (last_or None before) run fault h)
    (λ fault before run h. fails_order (λ (r : Run). r) is_apart (last_or None before) run fault h.0 h.1))
    read_are_runs runs_are_read

abbrev key_of : TotalParts → Key
key_of total = total.0

pub totals_report : Reports totals_at TotalsFail
totals_report = list_reports total_elements (λ total. IsTotal total.0 total.1) total_bytes MOST_TOTALS AreTotals TotalFails total_reads
    (next_reports total_elements (λ total. IsTotal total.0 total.1) total_bytes (Lacks (λ total. IsTotal total.0 total.1) total_bytes BadRange) (λ fault before total. ¬ FollowsLast is_total_before before total × (fault ≡ BadOrder)) total_reads total_reports
    (λ fault before total h. order_fails key_of is_key_before (last_or None before) total fault h)
    (λ fault before total h. fails_order key_of is_key_before (last_or None before) total fault h.0 h.1))
    read_are_totals totals_are_read

-- ---- cells

either_fails : (o p : Option DecodeFault) (fault : DecodeFault) → or_else o p ≡ Some fault → (o ≡ Some fault) ⊎ ((o ≡ None) × (p ≡ Some fault))
either_fails None p fault h = inr (refl, h)
either_fails (Some d) p fault h = inl h

abbrev dot_of : CellParts → Dot
dot_of cell = cell.0

-- a cell doesn't follow the last one, or its dot is in no run
abbrev CellBreaks : List Run → DecodeFault → List CellParts → CellParts → Type 0
CellBreaks runs fault before cell = (¬ FollowsLast is_cell_before before cell × (fault ≡ BadOrder)) ⊎ (FollowsLast is_cell_before before cell × (in_runs runs cell.0 ≡ false) × (fault ≡ BadRange))

cell_breaks : (version : ℕ) (runs : List Run) (fault : DecodeFault) (before : List CellParts) (cell : CellParts) → fault_behind (cell_elements version (set.contains (known_of runs))) before cell ≡ Some fault → CellBreaks runs fault before cell
cell_breaks version runs fault before cell h =
    let known = set.contains (known_of runs) cell.0 in
    elim (either_fails (order_fault is_dot_before (option_map dot_of (last_or None before)) cell.0) (unless known BadRange) fault h) [
      | inl order ↦ inl (order_fails dot_of is_dot_before (last_or None before) cell fault order)
      | inr dot ↦ let fails = unless_fails known BadRange fault dot.1 in inr (order_keeps dot_of is_dot_before (last_or None before) cell dot.0, sym (contains_known_of runs cell.0) ∙ fails.0, fails.1)
    ]

breaks_cell : (version : ℕ) (runs : List Run) (fault : DecodeFault) (before : List CellParts) (cell : CellParts) → CellBreaks runs fault before cell → fault_behind (cell_elements version (set.contains (known_of runs))) before cell ≡ Some fault
breaks_cell version runs fault before cell h =
    elim h [
      | inl order ↦ ap (λ o. or_else o (unless (set.contains (known_of runs) cell.0) BadRange)) (fails_order dot_of is_dot_before (last_or None before) cell fault order.0 order.1)
      | inr dot ↦ ap (λ o. or_else o (unless (set.contains (known_of runs) cell.0) BadRange)) (keeps_order dot_of is_dot_before (last_or None before) cell dot.0) ∙ fails_unless (set.contains (known_of runs) cell.0) BadRange fault (contains_known_of runs cell.0 ∙ dot.1) dot.2
    ]

pub cells_report : (version : ℕ) (runs : List Run) → Reports (cells_at version (set.contains (known_of runs))) (CellsFail version runs)
cells_report version runs = list_reports (cell_elements version (set.contains (known_of runs))) (IsCell version) cell_bytes MOST_LIVE (AreCells version runs) (NextCellFails version runs) (cell_reads version)
    (next_reports (cell_elements version (set.contains (known_of runs))) (IsCell version) cell_bytes (CellFails version) (CellBreaks runs) (cell_reads version) (cell_reports version) (cell_breaks version runs) (breaks_cell version runs))
    (λ xs g. known_cells version runs xs (read_are_cells version (set.contains (known_of runs)) xs g))
    (λ xs g. cells_are_read version (set.contains (known_of runs)) xs (cells_known version runs xs g))
