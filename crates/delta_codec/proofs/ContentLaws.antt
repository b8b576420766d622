-- What is read behind the length is spelled so, and what is spelled so is read.
use Rattle.std.proofs.Common.{◌≡◌, ℕ, suc, Bool, true, false, ◌&&◌, ◌||◌, cond, List, [], ◌∷◌, ◌++◌, length, Result, Ok, Err, refl, sym, ap, subst, ◌∙◌, arith}
use Rattle.std.specs.Prelude.{◌==◌, fold}
use Rattle.std.specs.FinMap as map
use Rattle.std.specs.FinSet as set
use Rattle.std.proofs.lemmas.Bool.Decides.{nat_tests}
use Rattle.std.proofs.lemmas.List.{append-nil, nil_from_length}
use Rattle.std.proofs.Math.Bool.{or-false}
use Rattle.dots.specs.DotSets.{Run, dots_between, in_run, in_runs}
use Rattle.dots.specs.Orders.{dot_cmp}
use Rattle.operations.specs.Totals.{Entries}
use Rattle.dots.specs.Values.{Dot}
use Rattle.member_orset.specs.Members.{Holding}
use Rattle.dots.proofs.DotOrder.{dots_total}
use Rattle.dots.proofs.Runs.{contains_set_of}
use Rattle.delta_codec.specs.declared.decode_fault.DecodeFault.{DecodeFault}
use Rattle.delta_codec.specs.declared.decode_fault.DecodeFault.TheVariants.{BadMagic, BadRange, BadVersion}
use Rattle.delta_codec.specs.Frames.{AreCells, AreParts, FrameParts, Heading, IsVersion, content_bytes, heading_bytes, magic}
use Rattle.delta_codec.specs.Parts.{CellParts, byte, cell_bytes, list_bytes, run_bytes, total_bytes}
use Rattle.delta_codec.specs.Reading.{◌>>=◌, Kept, cells_at, ended, heading_at, is_version, kept_at, known_of, live_of, made, magic_at, runs_at, totals_at, totals_of, version_at, with_run}
use Rattle.delta_codec.proofs.CellLaws.{heading_reads}
use Rattle.delta_codec.proofs.ListLaws.{AreCellsOf, cells_reads, runs_reads, totals_reads}
use Rattle.delta_codec.proofs.PartLaws.{IsBytes, Reads, Takes, bind_ok, ok_is, test_ok}

-- ---- magic and version

letters_are : (q d : ℕ) → ((q == 81) && (d == 68)) ≡ true → (q ≡ 81) × (d ≡ 68)
letters_are q d h = (grind (arith, nat_tests), grind (arith, nat_tests))

magic_takes : (bytes x rest : List ℕ) → IsBytes bytes → magic_at bytes ≡ Ok (x, rest) → Takes (λ letters. letters ≡ magic) (λ letters. letters) bytes x rest
unfolding magic_at
magic_takes [] x rest fits e = absurd cc
magic_takes (q ∷ []) x rest fits e = absurd cc
magic_takes (q ∷ d ∷ bytes) x rest fits e =
    let found : List ℕ × List ℕ = (magic, bytes) in
    let g = test_ok ((q == 81) && (d == 68)) BadMagic found (x, rest) e in
    let are = letters_are q d g.0 in
    subst (λ (z : List ℕ × List ℕ). Takes (λ letters. letters ≡ magic) (λ letters. letters) (q ∷ d ∷ bytes) z.0 z.1) g.1 (record { good = refl; parts = λ i. are.0 i ∷ are.1 i ∷ bytes; rest_fits = λ i. fits (suc (suc i)) })

magic_again : (x rest : List ℕ) → x ≡ magic → magic_at (x ++ rest) ≡ Ok (x, rest)
unfolding magic_at
magic_again x rest h = rw h refl

pub magic_reads : Reads magic_at (λ letters. letters ≡ magic) (λ letters. letters)
magic_reads = record { takes = magic_takes; again = magic_again }

is_read : (n : ℕ) → is_version n ≡ true → IsVersion n
is_read n h = (grind (arith, nat_tests), grind (arith, nat_tests))

passes : (n : ℕ) → IsVersion n → is_version n ≡ true
passes n h = let a = h.0 in let b = h.1 in grind (arith, nat_tests)

version_takes : (bytes : List ℕ) (x : ℕ) (rest : List ℕ) → IsBytes bytes → version_at bytes ≡ Ok (x, rest) → Takes IsVersion byte bytes x rest
unfolding version_at
version_takes [] x rest fits e = absurd cc
version_takes (n ∷ bytes) x rest fits e =
    let found : ℕ × List ℕ = (n, bytes) in
    let g = test_ok (is_version n) BadVersion found (x, rest) e in
    subst (λ (z : ℕ × List ℕ). Takes IsVersion byte (n ∷ bytes) z.0 z.1) g.1 (record { good = is_read n g.0; parts = refl; rest_fits = λ i. fits (suc i) })

version_again : (x : ℕ) (rest : List ℕ) → IsVersion x → version_at (byte x ++ rest) ≡ Ok (x, rest)
unfolding version_at
version_again x rest h = let found : Result (ℕ × List ℕ) DecodeFault = Ok (x, rest) in ap (λ b. cond b found (Err BadVersion)) (passes x h)

pub version_reads : Reads version_at IsVersion byte
version_reads = record { takes = version_takes; again = version_again }

-- ---- the known dots

or_more : (a b c : Bool) → ((a || (b || false)) || c) ≡ (a || (b || c))
or_more true b c = refl
or_more false true c = refl
or_more false false c = refl

known_from : (dots : set.FinSet dot_cmp) (runs : List Run) (q : Dot) → set.contains (fold with_run dots runs) q ≡ (set.contains dots q || in_runs runs q)
known_from dots [] q = sym (or-false (set.contains dots q))
known_from dots (r ∷ runs) q =
    let one : set.contains (with_run dots r) q ≡ (set.contains dots q || (in_run q r || false)) = set.contains-union dots_total dots (dots_between r.site r.first r.last) q ∙ ap (λ (b : Bool). set.contains dots q || b) (contains_set_of (record { site = r.site; first = r.first; last = r.last } ∷ []) q) in
    known_from (with_run dots r) runs q ∙ ap (λ (b : Bool). b || in_runs runs q) one ∙ or_more (set.contains dots q) (in_run q r) (in_runs runs q)

pub contains_known_of : (runs : List Run) (q : Dot) → set.contains (known_of runs) q ≡ in_runs runs q
contains_known_of runs q = known_from set.empty runs q ∙ ap (λ (b : Bool). b || in_runs runs q) (set.contains-empty dot_cmp q)

-- cells of known dots are cells of dots in the runs
pub known_cells : (version : ℕ) (runs : List Run) (cells : List CellParts) → AreCellsOf version (set.contains (known_of runs)) cells → AreCells version runs cells
known_cells version runs cells good = record { listed = good.listed; known = λ k d lt. sym (contains_known_of runs _) ∙ good.known k d lt }

pub cells_known : (version : ℕ) (runs : List Run) (cells : List CellParts) → AreCells version runs cells → AreCellsOf version (set.contains (known_of runs)) cells
cells_known version runs cells good = record { listed = good.listed; known = λ k d lt. contains_known_of runs _ ∙ good.known k d lt }

-- ---- the parts behind the length

-- what is read one after the other
pub record ContentRead (bytes : List ℕ) (parts : FrameParts) : Type 0 where
  pub version : List ℕ
  pub heading : List ℕ
  pub runs : List ℕ
  pub cells : List ℕ
  pub totals : List ℕ
  pub magic_is : magic_at bytes ≡ Ok (magic, version)
  pub version_is : version_at version ≡ Ok (parts.version, heading)
  pub heading_is : heading_at heading ≡ Ok (parts.heading, runs)
  pub runs_are : runs_at runs ≡ Ok (parts.runs, cells)
  pub cells_are : cells_at parts.version (set.contains (known_of parts.runs)) cells ≡ Ok (parts.cells, totals)
  pub totals_are : totals_at totals ≡ Ok (parts.totals, [])

-- what is kept of parts
abbrev pub kept_of : FrameParts → Kept
kept_of parts = (parts.heading, (known_of parts.runs, (live_of parts.cells, totals_of parts.totals)))

pub kept_of_read : (bytes : List ℕ) (parts : FrameParts) → ContentRead bytes parts → kept_at bytes ≡ Ok (kept_of parts)
unfolding kept_at
kept_of_read bytes parts r = rw (r.magic_is, r.version_is, r.heading_is, r.runs_are, r.cells_are, r.totals_are) refl

pub content_spelled : (bytes : List ℕ) (parts : FrameParts) → IsBytes bytes → ContentRead bytes parts → AreParts parts × (bytes ≡ content_bytes parts)
content_spelled bytes parts fits r =
    let m = magic_reads.takes bytes magic r.version fits r.magic_is in
    let v = version_reads.takes r.version parts.version r.heading m.rest_fits r.version_is in
    let h = heading_reads.takes r.heading parts.heading r.runs v.rest_fits r.heading_is in
    let p = runs_reads.takes r.runs parts.runs r.cells h.rest_fits r.runs_are in
    let c = (cells_reads parts.version (set.contains (known_of parts.runs))).takes r.cells parts.cells r.totals p.rest_fits r.cells_are in
    let t = totals_reads.takes r.totals parts.totals [] c.rest_fits r.totals_are in (
      record { version = v.good; heading = h.good; runs = p.good; cells = known_cells parts.version parts.runs parts.cells c.good; totals = t.good },
      m.parts ∙ ap (λ (x : List ℕ). magic ++ x) (v.parts ∙ ap (λ (x : List ℕ). byte parts.version ++ x) (h.parts ∙ ap (λ (x : List ℕ). heading_bytes parts.heading ++ x) (p.parts ∙ ap (λ (x : List ℕ). list_bytes run_bytes parts.runs ++ x) (c.parts ∙ ap (λ (x : List ℕ). list_bytes cell_bytes parts.cells ++ x) (t.parts ∙ append-nil (list_bytes total_bytes parts.totals)))))),
    )

pub content_read : (parts : FrameParts) → AreParts parts → ContentRead (content_bytes parts) parts
content_read parts good = record {
  version = byte parts.version ++ (heading_bytes parts.heading ++ (list_bytes run_bytes parts.runs ++ (list_bytes cell_bytes parts.cells ++ list_bytes total_bytes parts.totals)));
  heading = heading_bytes parts.heading ++ (list_bytes run_bytes parts.runs ++ (list_bytes cell_bytes parts.cells ++ list_bytes total_bytes parts.totals));
  runs = list_bytes run_bytes parts.runs ++ (list_bytes cell_bytes parts.cells ++ list_bytes total_bytes parts.totals);
  cells = list_bytes cell_bytes parts.cells ++ list_bytes total_bytes parts.totals;
  totals = list_bytes total_bytes parts.totals;
  magic_is = magic_reads.again magic (byte parts.version ++ (heading_bytes parts.heading ++ (list_bytes run_bytes parts.runs ++ (list_bytes cell_bytes parts.cells ++ list_bytes total_bytes parts.totals)))) refl;
  version_is = version_reads.again parts.version (heading_bytes parts.heading ++ (list_bytes run_bytes parts.runs ++ (list_bytes cell_bytes parts.cells ++ list_bytes total_bytes parts.totals))) good.version;
  heading_is = heading_reads.again parts.heading (list_bytes run_bytes parts.runs ++ (list_bytes cell_bytes parts.cells ++ list_bytes total_bytes parts.totals)) good.heading;
  runs_are = runs_reads.again parts.runs (list_bytes cell_bytes parts.cells ++ list_bytes total_bytes parts.totals) good.runs;
  cells_are = (cells_reads parts.version (set.contains (known_of parts.runs))).again parts.cells (list_bytes total_bytes parts.totals) (cells_known parts.version parts.runs parts.cells good.cells);
  totals_are = ap totals_at (sym (append-nil (list_bytes total_bytes parts.totals))) ∙ totals_reads.again parts.totals [] good.totals;
}

empty_is : (n : ℕ) → (n == 0) ≡ true → n ≡ 0
empty_is n h = grind (arith, nat_tests)

ended_ok : {A : Type 0} (x y : A) (rest : List ℕ) → ended (x, rest) ≡ Ok y → (rest ≡ []) × (x ≡ y)
ended_ok x y rest e = let g = test_ok (length rest == 0) BadRange x y e in (nil_from_length rest (empty_is (length rest) g.0), g.1)

-- ---- from what is kept to the parts

made_ok : {A B : Type 0} (f : A → B) (read : Result (A × List ℕ) DecodeFault) (y : B × List ℕ) → made f read ≡ Ok y → (x : A × List ℕ) × (read ≡ Ok x) × (◌≡◌ {A = B × List ℕ} (f x.0, x.1) y)
made_ok {A = A} {B = B} f read y e = let a = bind_ok read (λ x. Ok (f x.0, x.1)) y e in let found : B × List ℕ = (f a.0.0, a.0.1) in (a.0, a.1, ok_is found y a.2)

-- the steps of reading, each with what follows it
abbrev step6 : Heading → set.FinSet dot_cmp → map.FinMap dot_cmp Holding → Entries × List ℕ → Result Kept DecodeFault
step6 h known live = λ totals. ended ((h, (known, (live, totals.0))), totals.1)

abbrev step5 : Heading → set.FinSet dot_cmp → map.FinMap dot_cmp Holding × List ℕ → Result Kept DecodeFault
step5 h known = λ live. made totals_of (totals_at live.1) >>= step6 h known live.0

abbrev step4 : ℕ → Heading → set.FinSet dot_cmp × List ℕ → Result Kept DecodeFault
step4 version h = λ known. made live_of (cells_at version (set.contains known.0) known.1) >>= step5 h known.0

abbrev step3 : ℕ → Heading × List ℕ → Result Kept DecodeFault
step3 version = λ heading. made known_of (runs_at heading.1) >>= step4 version heading.0

abbrev step2 : ℕ × List ℕ → Result Kept DecodeFault
step2 = λ version. heading_at version.1 >>= step3 version.0

abbrev step1 : List ℕ × List ℕ → Result Kept DecodeFault
step1 = λ letters. version_at letters.1 >>= step2

abbrev found : {A : Type 0} → A → List ℕ → Result (A × List ℕ) DecodeFault
found x rest = Ok (x, rest)

pub record PartsRead (bytes : List ℕ) (kept : Kept) : Type 0 where
  pub parts : FrameParts
  pub read : ContentRead bytes parts
  pub same : kept_of parts ≡ kept

pub read_of_kept : (bytes : List ℕ) (k : Kept) → IsBytes bytes → kept_at bytes ≡ Ok k → PartsRead bytes k
unfolding kept_at
read_of_kept bytes k fits e =
    let a = bind_ok (magic_at bytes) step1 k e in
    let m = magic_reads.takes bytes a.0.0 a.0.1 fits a.1 in
    let b = bind_ok (version_at a.0.1) step2 k a.2 in
    let h = bind_ok (heading_at b.0.1) (step3 b.0.0) k b.2 in
    let r = bind_ok (made known_of (runs_at h.0.1)) (step4 b.0.0 h.0.0) k h.2 in
    let runs = made_ok known_of (runs_at h.0.1) r.0 r.1 in
    let l = bind_ok (made live_of (cells_at b.0.0 (set.contains r.0.0) r.0.1)) (step5 h.0.0 r.0.0) k r.2 in
    let cells = made_ok live_of (cells_at b.0.0 (set.contains r.0.0) r.0.1) l.0 l.1 in
    let t = bind_ok (made totals_of (totals_at l.0.1)) (step6 h.0.0 r.0.0 l.0.0) k l.2 in
    let totals = made_ok totals_of (totals_at l.0.1) t.0 t.1 in
    let z = ended_ok (h.0.0, (r.0.0, (l.0.0, t.0.0))) k t.0.1 t.2 in
    let rest : totals.0.1 ≡ [] = ap (λ (x : Entries × List ℕ). x.1) totals.2 ∙ z.0 in
    record {
      parts = record { version = b.0.0; heading = h.0.0; runs = runs.0.0; cells = cells.0.0; totals = totals.0.0 };
      read = record {
        version = a.0.1;
        heading = b.0.1;
        runs = h.0.1;
        cells = runs.0.1;
        totals = cells.0.1;
        magic_is = a.1 ∙ ap (λ (x : List ℕ). found x a.0.1) m.good;
        version_is = b.1;
        heading_is = h.1;
        runs_are = runs.1;
        cells_are = ap (λ (x : set.FinSet dot_cmp × List ℕ). cells_at b.0.0 (set.contains x.0) x.1) runs.2 ∙ cells.1;
        totals_are = ap (λ (x : map.FinMap dot_cmp Holding × List ℕ). totals_at x.1) cells.2 ∙ totals.1 ∙ ap (λ (x : List ℕ). found totals.0.0 x) rest;
      };
      same = (λ i. (h.0.0, ((runs.2 i).0, ((cells.2 i).0, (totals.2 i).0)))) ∙ z.1;
    }
