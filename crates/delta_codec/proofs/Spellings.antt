-- A frame has a spelling exactly where it fits the format, and one in the oldest version exactly where it has no ring besides.
use Rattle.std.proofs.Common.{◌≡◌, ◌≤◌, ◌<◌, ℕ, zero, suc, Bool, true, false, cond, List, [], ◌∷◌, length, get_or, Contains, Option, None, Some, is_some, refl, sym, ap, subst, ◌∙◌, arith}
use Rattle.std.specs.Prelude.{IsTrue}
use Rattle.std.specs.List.{All}
use Rattle.std.specs.Cmp.{IsTotalOrder}
use Rattle.std.specs.Ordering.{eq_by_cmp}
use Rattle.std.specs.declared.cmp.Ordering.{Ordering}
use Rattle.std.specs.FinMap as map
use Rattle.std.specs.FinMap.Entries.{find}
use Rattle.std.specs.FinSet as set
use Rattle.std.proofs.lemmas.Bool.Decides.{nat_tests}
use Rattle.std.proofs.lemmas.List.{get_or_default}
use Rattle.std.proofs.lemmas.List.Elements.{Contains-get_or}
use Rattle.general_lemmas.specs.SortedEntries.{IsAt}
use Rattle.general_lemmas.proofs.Membership.{any_in, first_in, in_any, later_in}
use Rattle.general_lemmas.proofs.SortedEntries.{find_at}
use Rattle.general_lemmas.proofs.TruthTables.{equal_of, fact}
use Rattle.dots.specs.DotSets.{AreApart, IsRunsOf, Run, first_dot, in_run, in_runs, last_dot}
use Rattle.dots.specs.Orders.{dot_cmp}
use Rattle.dots.specs.Values.{Dot, IsCount, IsSite}
use Rattle.dots.specs.WithinLimits.{AreDots, IsDot}
use Rattle.dots.proofs.DotOrder.{dots_exact, dots_total}
use Rattle.dots.proofs.RunCounts.{run_count_runs}
use Rattle.dots.proofs.RunsOfSets.{runs_of}
use Rattle.operations.specs.Conditions.{DotFields}
use Rattle.operations.specs.Registers.{Entry}
use Rattle.operations.specs.Totals.{IsTotal}
use Rattle.operations.proofs.TotalsLaws.{exact_keys, keys_total}
use Rattle.causal_context.specs.Contexts.{IsRunWithinLimits}
use Rattle.member_orset.specs.Members.{Holding}
use Rattle.delta.specs.declared.frame.Frame.{Frame}
use Rattle.delta_codec.specs.Fitting.{FitsFormat, HasNoRing}
use Rattle.delta_codec.specs.Frames.{FrameParts, IsVersion, Spells, SpellsIn, frame_bytes}
use Rattle.delta_codec.specs.Parts.{CellParts, IsCell, TotalParts, bit_of, flags_of}
use Rattle.delta_codec.specs.declared.limits.TheConstants.{OLDEST_VERSION, VERSION}
use Rattle.delta_codec.proofs.CellLaws.{few_bit, flags_few, none_of}
use Rattle.delta_codec.proofs.Counting.{few_totals}
use Rattle.delta_codec.proofs.Encoded.{heading_of}

-- ---- entries of maps

module _ {K V : Type 0} {R : K → K → Ordering} (total : IsTotalOrder R) (exact : map.IsAntisymmetric R) (m : map.FinMap R V) where
  -- an entry is given by its key
  entry_given : (i : ℕ) (d : K × V) → i < length (map.entries m) → map.get m (get_or (map.entries m) i d).0 ≡ Some (get_or (map.entries m) i d).1
  entry_given i d lt =
      let at : IsAt (map.entries m) (get_or (map.entries m) i d).0 i = record { in_range = lt; has_key = λ none. ap (λ (x : K × V). x.0) (get_or_default (map.entries m) i none d lt) } in
      map.get-entries m (get_or (map.entries m) i d).0 ∙ find_at R total (map.entries m) (fact _ (map.entries_sorted m)) (get_or (map.entries m) i d).0 i d at

  found_in : (q : K) (v : V) (es : List (K × V)) → find R q es ≡ Some v → Contains es (q, v)
  found_in q v [] h = absurd (cc)
  found_in q v (e ∷ es) h = by (eq_by_cmp R q e.0) refl h (found_in q v es)
    where
      one : (x y : V) → Some x ≡ Some y → x ≡ y
      one x y h = cc

      by : (b : Bool) → eq_by_cmp R q e.0 ≡ b → cond b (Some e.1) (find R q es) ≡ Some v → (find R q es ≡ Some v → Contains es (q, v)) → Contains (e ∷ es) (q, v)
      by true t h rest = subst (Contains (e ∷ es)) (λ i. (sym (exact q e.0 (equal_of (R q e.0) t)) i, one e.1 v h i)) (first_in e es)
      by false t h rest = later_in e es (q, v) (rest h)

  -- what is given is an entry
  given_entry : (q : K) (v : V) → map.get m q ≡ Some v → Contains (map.entries m) (q, v)
  given_entry q v h = found_in q v (map.entries m) (sym (map.get-entries m q) ∙ h)

-- what holds of each element of a list holds of what it contains
each_in : {X : Type 0} (P : X → Type 0) (xs : List X) (x : X) → All P xs → Contains xs x → P x
each_in P xs x all here = subst P here.2 (all here.0 x here.1)

-- ---- runs

-- each run has a dot
runs_ordered : (rs : List Run) → AreApart rs → (i : ℕ) (d : Run) → i < length rs → (get_or rs i d).first ≤ (get_or rs i d).last
runs_ordered [] apart i d lt = absurd (omega (arith, lt))
runs_ordered (r ∷ rs) apart zero d lt = apart.0
runs_ordered (r ∷ rs) apart (suc i) d lt = runs_ordered rs apart.2 i d (omega (arith, lt))

first_in_run : (r : Run) → r.first ≤ r.last → in_run (first_dot r) r ≡ true
first_in_run r w = grind (arith, nat_tests)

last_in_run : (r : Run) → r.first ≤ r.last → in_run (last_dot r) r ≡ true
last_in_run r w = grind (arith, nat_tests)

-- the runs of dots within limits are within theirs
runs_within : (rs : List Run) (dots : set.FinSet dot_cmp) → IsRunsOf rs dots → AreDots dots → All IsRunWithinLimits rs
runs_within rs dots is are i d lt =
    let r = get_or rs i d in
    let here : Contains rs r = Contains-get_or rs i d lt in
    let ordered = runs_ordered rs is.apart i d lt in
    let first = are (first_dot r) (is.same (first_dot r) ∙ any_in (in_run (first_dot r)) rs r here (first_in_run r ordered)) in
    let last = are (last_dot r) (is.same (last_dot r) ∙ any_in (in_run (last_dot r)) rs r here (last_in_run r ordered)) in
    record { site = first.site; least = first.count.0; ordered = ordered; most = last.count.1 }

-- the dots of runs within limits are within theirs
dot_of_run : (dot : Dot) (r : Run) → IsRunWithinLimits r → in_run dot r ≡ true → IsDot dot
dot_of_run dot r is h =
    let n = numbers h in record { site = subst (λ s. s < 64) n.0 is.site; count = (omega (arith, is.least, n.1), omega (arith, is.most, n.2)) }
  where
    numbers : in_run dot r ≡ true → (r.site ≡ dot.site) × (r.first ≤ dot.count) × (dot.count ≤ r.last)
    numbers h = (grind (arith, nat_tests, h), grind (arith, nat_tests, h), grind (arith, nat_tests, h))

dots_within : (rs : List Run) (dots : set.FinSet dot_cmp) → IsRunsOf rs dots → All IsRunWithinLimits rs → AreDots dots
dots_within rs dots is within dot h =
    let r = in_any (in_run dot) rs (sym (is.same dot) ∙ h) in dot_of_run dot r.0 (each_in IsRunWithinLimits rs r.0 within r.1) r.2

-- ---- frames

abbrev IsGoodTotal : TotalParts → Type 0
IsGoodTotal total = IsTotal total.0 total.1

-- a frame that fits the format has a spelling in each version of which its cells are
spelling_in : (version : ℕ) → IsVersion version → (frame : Frame) → FitsFormat frame
    → ((dot : Dot) (held : Holding) → map.get frame.delta.members.live dot ≡ Some held → IsCell version (dot, held)) → (bytes : List ℕ) × SpellsIn version frame bytes
spelling_in version known frame fits are =
    let members = frame.delta.members in
    let runs = runs_of members.known in
    let parts : FrameParts = record { version = version; heading = heading_of frame; runs = runs.0; cells = map.entries members.live; totals = map.entries frame.delta.totals.entries } in
    let many = run_count_runs runs.0 members.known runs.1 in
    let length_is = map.len-entries members.live in
    let few_runs = fits.runs in
    let few = fits.few in
    let totals : All IsGoodTotal (map.entries frame.delta.totals.entries) =
    λ i d lt. fits.totals _ _ (entry_given keys_total exact_keys frame.delta.totals.entries i d lt) in (
      frame_bytes parts,
      record {
        spells = record {
          parts = parts;
          of_frame = record { maker = refl; number = refl; runs = runs.1; cells = refl; totals = refl };
          within = record {
            version = known;
            heading = record { maker = fits.maker; number = fits.number };
            runs = record { each = runs_within runs.0 members.known runs.1 fits.dots; order = runs.1.apart; few = omega (arith, many, few_runs) };
            cells = record {
              listed = record {
                each = λ i d lt. are _ _ (entry_given dots_total dots_exact members.live i d lt);
                order = fact _ (map.entries_sorted members.live);
                few = omega (arith, length_is, few);
              };
              known = λ i d lt. sym (runs.1.same _) ∙ fits.known _ _ (entry_given dots_total dots_exact members.live i d lt);
            };
            totals = record { each = totals; order = fact _ (map.entries_sorted frame.delta.totals.entries); few = few_totals frame.delta.totals.entries totals };
          };
          spelled = refl;
        };
        version_is = refl;
      },
    )

pub has_spelling : (frame : Frame) → FitsFormat frame → (bytes : List ℕ) × SpellsIn VERSION frame bytes
has_spelling frame fits = spelling_in VERSION (omega arith, omega arith) frame fits fits.cells

-- a cell of any version is one of that which is written
cell_of_any : (version : ℕ) (cell : CellParts) → IsCell version cell → IsCell VERSION cell
cell_of_any version cell is = record {
  dot = is.dot;
  member = is.member;
  fields = record { within = is.fields.within; some = is.fields.some; of_version = flags_few cell.1.1 };
}

pub spelled_fits : (frame : Frame) (bytes : List ℕ) → Spells frame bytes → FitsFormat frame
spelled_fits frame bytes spells =
    let members = frame.delta.members in
    let parts = spells.parts in
    let within = spells.within in
    let runs = spells.of_frame.runs in
    let many = run_count_runs parts.runs members.known runs in
    let few_runs = within.runs.few in
    let few = within.cells.listed.few in
    let length_is = map.len-entries members.live in
    let cells_are : length parts.cells ≡ length (map.entries members.live) = ap length spells.of_frame.cells in
    let cell_in = λ (dot : Dot) (held : Holding) (e : map.get members.live dot ≡ Some held).
    subst (λ (cells : List CellParts). Contains cells (dot, held)) (sym spells.of_frame.cells) (given_entry dots_total dots_exact members.live dot held e) in
    record {
      maker = subst IsSite spells.of_frame.maker within.heading.maker;
      number = subst IsCount spells.of_frame.number within.heading.number;
      dots = dots_within parts.runs members.known runs within.runs.each;
      runs = omega (arith, many, few_runs);
      cells = λ dot held e. cell_of_any parts.version (dot, held) (each_in (IsCell parts.version) parts.cells (dot, held) within.cells.listed.each (cell_in dot held e));
      known = λ dot held e. runs.same dot ∙ each_in (λ cell. IsTrue (in_runs parts.runs cell.0)) parts.cells (dot, held) within.cells.known (cell_in dot held e);
      few = omega (arith, few, length_is, cells_are);
      totals = λ key totals e. each_in IsGoodTotal parts.totals (key, totals) within.totals.each
          (subst (λ (listed : List TotalParts). Contains listed (key, totals)) (sym spells.of_frame.totals) (given_entry keys_total exact_keys frame.delta.totals.entries key totals e));
    }

-- ---- the oldest version

-- fields have no ring where their flags are those of the oldest version, and these where they have none
no_ring_in : (fields : DotFields) → flags_of fields ≤ 7 → fields.ring ≡ None
no_ring_in fields few = none_of fields.ring (omega (arith, few))

flags_without : (fields : DotFields) → fields.ring ≡ None → flags_of fields ≤ 7
flags_without fields none =
    let ring : bit_of (is_some fields.ring) ≡ 0 = ap (λ (x : Option (Entry Bool)). bit_of (is_some x)) none in
    omega (arith, ring, few_bit (is_some fields.penalty), few_bit (is_some fields.pause), few_bit (is_some fields.label))

pub no_ring_spelled : (frame : Frame) (bytes : List ℕ) → SpellsIn OLDEST_VERSION frame bytes → HasNoRing frame
no_ring_spelled frame bytes spells dot held e =
    let parts = spells.spells.parts in
    let here = subst (λ (cells : List CellParts). Contains cells (dot, held)) (sym spells.spells.of_frame.cells) (given_entry dots_total dots_exact frame.delta.members.live dot held e) in
    let cell = each_in (IsCell parts.version) parts.cells (dot, held) spells.spells.within.cells.listed.each here in
    let oldest : IsCell OLDEST_VERSION (dot, held) = subst (λ version. IsCell version (dot, held)) spells.version_is cell in
    no_ring_in held.1 oldest.fields.of_version

cell_without : (dot : Dot) (held : Holding) → held.1.ring ≡ None → IsCell VERSION (dot, held) → IsCell OLDEST_VERSION (dot, held)
cell_without dot held none is = record {
  dot = is.dot;
  member = is.member;
  fields = record { within = is.fields.within; some = is.fields.some; of_version = flags_without held.1 none };
}

pub has_oldest_spelling : (frame : Frame) → FitsFormat frame → HasNoRing frame → (bytes : List ℕ) × SpellsIn OLDEST_VERSION frame bytes
has_oldest_spelling frame fits none =
    spelling_in OLDEST_VERSION (omega arith, omega arith) frame fits (λ dot held e. cell_without dot held (none dot held e) (fits.cells dot held e))
