-- What is read of lists is spelled so, and what is spelled so is read.
use Rattle.std.proofs.Common.{◌≡◌, ℕ, zero, suc, ◌^◌, ◌<◌, ◌≤◌, Bool, true, false, List, [], ◌∷◌, ◌++◌, length, Option, Some, None, Ok, refl, sym, ap, subst, ◌∙◌, append_assoc, arith}
use Rattle.std.specs.Prelude.{IsTrue, nat_le}
use Rattle.std.specs.List.{All, AllByRecursion, flat_map}
use Rattle.std.specs.Int.{w32, to_be_bytes}
use Rattle.std.specs.declared.cmp.Ordering.{Ordering}
use Rattle.std.specs.Ordering.{is_lt}
use Rattle.std.specs.Cmp.{IsTotalOrder}
use Rattle.std.specs.FinMap.Entries.{below_all, is_sorted}
use Rattle.std.proofs.lemmas.Bool.{and_from, and_parts}
use Rattle.std.proofs.lemmas.Bool.Decides.{nat_tests}
use Rattle.std.proofs.lemmas.List.Elements.{All-cons, All-from_recursion, All-head, All-tail, All-weaker}
use Rattle.dots.specs.declared.limits.TheConstants.{MOST_LIVE, MOST_RUNS}
use Rattle.dots.specs.DotSets.{AreApart, Run, is_apart}
use Rattle.dots.specs.Orders.{dot_cmp}
use Rattle.general_lemmas.specs.SortedEntries.{IsRising}
use Rattle.operations.specs.Totals.{IsTotal, Key, key_cmp}
use Rattle.dots.specs.Values.{Dot}
use Rattle.dots.proofs.DotOrder.{dots_total}
use Rattle.general_lemmas.proofs.SortedEntries.{below_first, rising_head, rising_tail}
use Rattle.operations.proofs.TotalsLaws.{keys_total}
use Rattle.general_lemmas.proofs.TruthTables.{less_of}
use Rattle.causal_context.specs.Contexts.{IsRunWithinLimits}
use Rattle.delta_codec.specs.declared.decode_fault.DecodeFault.{DecodeFault}
use Rattle.delta_codec.specs.declared.decode_fault.DecodeFault.TheVariants.{BadOrder, BadRange, TooLarge}
use Rattle.delta_codec.specs.declared.limits.TheConstants.{MOST_TOTALS}
use Rattle.delta_codec.specs.Frames.{AreRuns, AreTotals}
use Rattle.delta_codec.specs.Parts.{CellParts, IsCell, IsListOf, TotalParts, cell_bytes, list_bytes, run_bytes, total_bytes}
use Rattle.delta_codec.specs.Reading.{◌>>=◌, Elements, accepted, cell_elements, cells_at, elements_at, is_dot_before, is_key_before, list_at, next_at, number_at, or_else, order_fault, run_elements, runs_at, size_at, total_elements, totals_at, unless}
use Rattle.delta_codec.proofs.CellLaws.{cell_reads, run_reads, total_reads}
use Rattle.delta_codec.proofs.PartLaws.{IsBytes, Reads, Takes, bind_ok, number4_reads, ok_is, reads_good, reads_tested}

-- each element can stand behind the one before
abbrev pub Chain : {A K : Type 0} → Elements A K → Option K → List A → Type 0
Chain e last [] = Unit {0}
Chain e last (x ∷ xs) = (e.fault_of last (e.key x) ≡ None) × Chain e (Some (e.key x)) xs

-- the key of the last of some elements, if there is one
abbrev pub last_key : {A K : Type 0} → Elements A K → Option K → List A → Option K
last_key e last [] = last
last_key e last (x ∷ xs) = last_key e (Some (e.key x)) xs

-- what was taken of a list
record Taken {A K : Type 0} (e : Elements A K) (G : A → Type 0) (s : A → List ℕ) (n : ℕ) (last : Option K) (bytes : List ℕ) (xs : List A) (rest : List ℕ) : Type 0 where
  pub parts : bytes ≡ flat_map s xs ++ rest
  pub rest_fits : IsBytes rest
  pub count : length xs ≡ n
  pub each : AllByRecursion G xs
  pub chain : Chain e last xs

accepted_ok : {A : Type 0} (o : Option DecodeFault) (x y : A) → accepted o x ≡ Ok y → (o ≡ None) × (x ≡ y)
accepted_ok None x y e = (refl, ok_is x y e)
accepted_ok (Some fault) x y e = absurd cc

-- the next element was taken, and it can stand behind the last one
pub next_takes : {A K : Type 0} (e : Elements A K) (G : A → Type 0) (s : A → List ℕ) → Reads e.at G s → (last : Option K) (bytes : List ℕ) (x : A) (rest : List ℕ) → IsBytes bytes → next_at e last bytes ≡ Ok (x, rest) → Takes G s bytes x rest × (e.fault_of last (e.key x) ≡ None)
next_takes {A = A} e G s r last bytes x rest fits h =
    let a = bind_ok (e.at bytes) (λ y. accepted (e.fault_of last (e.key y.0)) y) (x, rest) h in
    let b = accepted_ok (e.fault_of last (e.key a.0.0)) a.0 (x, rest) a.2 in
    (r.takes bytes x rest fits (a.1 ∙ ap (λ (z : A × List ℕ). Ok z) b.1), ap (λ (z : A × List ℕ). e.fault_of last (e.key z.0)) (sym b.1) ∙ b.0)

elements_take : {A K : Type 0} (e : Elements A K) (G : A → Type 0) (s : A → List ℕ) → Reads e.at G s → (n : ℕ) (last : Option K) (bytes : List ℕ) (xs : List A) (rest : List ℕ) → IsBytes bytes → elements_at e n last bytes ≡ Ok (xs, rest) → Taken e G s n last bytes xs rest
unfolding elements_at
elements_take {A = A} e G s r zero last bytes xs rest fits h =
    let none : List A × List ℕ = ([], bytes) in
    subst (λ (z : List A × List ℕ). Taken e G s 0 last bytes z.0 z.1) (ok_is none (xs, rest) h) (record { parts = refl; rest_fits = fits; count = refl; each = tt; chain = tt })
elements_take {A = A} e G s r (suc n) last bytes xs rest fits h =
    let a = bind_ok (next_at e last bytes) (λ x. elements_at e n (Some (e.key x.0)) x.1 >>= λ ys. Ok (x.0 ∷ ys.0, ys.1)) (xs, rest) h in
    let b = bind_ok (elements_at e n (Some (e.key a.0.0)) a.0.1) (λ ys. Ok (a.0.0 ∷ ys.0, ys.1)) (xs, rest) a.2 in
    let first = next_takes e G s r last bytes a.0.0 a.0.1 fits a.1 in
    let others = elements_take e G s r n (Some (e.key a.0.0)) a.0.1 b.0.0 b.0.1 first.0.rest_fits b.1 in
    let all : List A × List ℕ = (a.0.0 ∷ b.0.0, b.0.1) in
    subst (λ (z : List A × List ℕ). Taken e G s (suc n) last bytes z.0 z.1) (ok_is all (xs, rest) b.2)
    (record { parts = first.0.parts ∙ ap (λ (x : List ℕ). s a.0.0 ++ x) others.parts ∙ sym (append_assoc (s a.0.0) (flat_map s b.0.0) b.0.1); rest_fits = others.rest_fits; count = ap suc others.count; each = (first.0.good, others.each); chain = (first.1, others.chain) })

elements_again : {A K : Type 0} (e : Elements A K) (G : A → Type 0) (s : A → List ℕ) → Reads e.at G s → (last : Option K) (xs : List A) (rest : List ℕ) → AllByRecursion G xs → Chain e last xs → elements_at e (length xs) last (flat_map s xs ++ rest) ≡ Ok (xs, rest)
unfolding elements_at
elements_again e G s r last [] rest each chain = refl
elements_again e G s r last (x ∷ xs) rest each chain =
    let regrouped : flat_map s (x ∷ xs) ++ rest ≡ s x ++ (flat_map s xs ++ rest) = append_assoc (s x) (flat_map s xs) rest in
    let one : e.at (flat_map s (x ∷ xs) ++ rest) ≡ Ok (x, flat_map s xs ++ rest) = ap e.at regrouped ∙ r.again x (flat_map s xs ++ rest) each.0 in
    let others = elements_again e G s r (Some (e.key x)) xs rest each.1 chain.1 in
    rw (one, chain.0, others) refl

-- the elements of a list of the format
abbrev pub AreElements : {A K : Type 0} → Elements A K → (A → Type 0) → ℕ → List A → Type 0
AreElements e G most xs = (length xs ≤ most) × (AllByRecursion G xs × Chain e None xs)

abbrev IsSize : ℕ → ℕ → Type 0
IsSize most n = (n < 2 ^ 32) × (nat_le n most ≡ true)

size_reads : (most : ℕ) → Reads (size_at most) (IsSize most) (to_be_bytes w32)
unfolding size_at
size_reads most = reads_tested (number_at w32) (λ n. n < 2 ^ 32) (to_be_bytes w32) (λ n. nat_le n most) TooLarge number4_reads

le_of : (n most : ℕ) → nat_le n most ≡ true → n ≤ most
le_of n most h = grind (arith, nat_tests)

le_test : (n most : ℕ) → n ≤ most → nat_le n most ≡ true
le_test n most h = grind (arith, nat_tests)

list_reads : {A K : Type 0} (e : Elements A K) (G : A → Type 0) (s : A → List ℕ) (most : ℕ) → most < 2 ^ 32 → Reads e.at G s → Reads (list_at e most) (AreElements e G most) (list_bytes s)
unfolding list_at
list_reads {A = A} e G s most small r = record {
  takes = λ bytes xs rest fits h.
      let a = bind_ok (size_at most bytes) (λ n. elements_at e n.0 None n.1) (xs, rest) h in
      let t = (size_reads most).takes bytes a.0.0 a.0.1 fits a.1 in
      let u = elements_take e G s r a.0.0 None a.0.1 xs rest t.rest_fits a.2 in
      let few = le_of a.0.0 most t.good.1 in
      record {
        good = (omega (arith, u.count, few), (u.each, u.chain));
        parts = t.parts ∙ ap (λ (x : List ℕ). to_be_bytes w32 a.0.0 ++ x) u.parts ∙ sym (append_assoc (to_be_bytes w32 a.0.0) (flat_map s xs) rest) ∙ ap (λ (k : ℕ). (to_be_bytes w32 k ++ flat_map s xs) ++ rest) (sym u.count);
        rest_fits = u.rest_fits;
      };
  again = λ xs rest good.
      let regrouped : list_bytes s xs ++ rest ≡ to_be_bytes w32 (length xs) ++ (flat_map s xs ++ rest) = append_assoc (to_be_bytes w32 (length xs)) (flat_map s xs) rest in
      let few : length xs ≤ most = good.0 in
      let one : size_at most (list_bytes s xs ++ rest) ≡ Ok (length xs, flat_map s xs ++ rest) = ap (size_at most) regrouped ∙ (size_reads most).again (length xs) (flat_map s xs ++ rest) (omega (arith, few, small), le_test (length xs) most few) in
      rw one (elements_again e G s r None xs rest good.1.0 good.1.1);
}

pub by_recursion : {A : Type 0} (P : A → Type 0) (xs : List A) → All P xs → AllByRecursion P xs
by_recursion P [] h = tt
by_recursion P (x ∷ xs) h = (All-head P x xs h, by_recursion P xs (All-tail P x xs h))

-- ---- runs

unless_none : (b : Bool) (f : DecodeFault) → unless b f ≡ None → b ≡ true
unless_none true f h = refl
unless_none false f h = absurd cc

none_unless : (b : Bool) (f : DecodeFault) → b ≡ true → unless b f ≡ None
none_unless b f h = ap (λ c. unless c f) h

apart_after : (r x y : Run) → x.first ≤ x.last → IsTrue (is_apart r x) → IsTrue (is_apart x y) → IsTrue (is_apart r y)
apart_after r x y w a b = grind (arith, nat_tests)

apart_from : (r : Run) (xs : List Run) → AllByRecursion IsRunWithinLimits xs → Chain run_elements (Some r) xs → All (λ x. IsTrue (is_apart r x)) xs × AreApart xs
apart_from r [] each chain = ((λ k d lt. absurd (omega arith)), tt)
apart_from r (x ∷ xs) each chain =
    let rest = apart_from x xs each.1 chain.1 in
    let here : IsTrue (is_apart r x) = unless_none (is_apart r x) BadOrder chain.0 in
    (All-cons (λ y. IsTrue (is_apart r y)) x xs here (All-weaker (λ y. IsTrue (is_apart x y)) (λ y. IsTrue (is_apart r y)) (λ y h. apart_after r x y each.0.ordered here h) xs rest.0), (each.0.ordered, rest.0, rest.1))

pub are_apart : (xs : List Run) → AllByRecursion IsRunWithinLimits xs → Chain run_elements None xs → AreApart xs
are_apart [] each chain = tt
are_apart (x ∷ xs) each chain = let rest = apart_from x xs each.1 chain.1 in (each.0.ordered, rest.0, rest.1)

chain_from : (r : Run) (xs : List Run) → AreApart (r ∷ xs) → Chain run_elements (Some r) xs
chain_from r [] h = tt
chain_from r (x ∷ xs) h = (none_unless (is_apart r x) BadOrder (All-head (λ y. IsTrue (is_apart r y)) x xs h.1), chain_from x xs h.2)

run_chain : (xs : List Run) → AreApart xs → Chain run_elements None xs
run_chain [] h = tt
run_chain (x ∷ xs) h = (refl, chain_from x xs h)

pub read_are_runs : (xs : List Run) → AreElements run_elements IsRunWithinLimits MOST_RUNS xs → AreRuns xs
read_are_runs xs g = record { each = All-from_recursion IsRunWithinLimits xs g.1.0; order = are_apart xs g.1.0 g.1.1; few = g.0 }

pub runs_are_read : (xs : List Run) → AreRuns xs → AreElements run_elements IsRunWithinLimits MOST_RUNS xs
runs_are_read xs g = (g.few, (by_recursion IsRunWithinLimits xs g.each, run_chain xs g.order))

pub runs_reads : Reads runs_at AreRuns (list_bytes run_bytes)
runs_reads = reads_good runs_at (AreElements run_elements IsRunWithinLimits MOST_RUNS) AreRuns (list_bytes run_bytes) (list_reads run_elements IsRunWithinLimits run_bytes MOST_RUNS (omega arith) run_reads) read_are_runs runs_are_read

-- ---- entries in the order of their keys

-- each key lies before the next
abbrev Ascends : {K V : Type 0} → (K → K → Ordering) → K → List (K × V) → Type 0
Ascends R a [] = Unit {0}
Ascends R a (e ∷ es) = (is_lt (R a e.0) ≡ true) × Ascends R e.0 es

rises : {K V : Type 0} (R : K → K → Ordering) (total : IsTotalOrder R) (e : K × V) (es : List (K × V)) → Ascends R e.0 es → IsRising R (e ∷ es)
rises R total e [] h = refl
rises R total e (n ∷ es) h =
    let tail = rises R total n es h.1 in
    and_from (below_all R e.0 (n ∷ es)) (is_sorted R (n ∷ es)) (below_first R total e.0 n es (less_of (R e.0 n.0) h.0) tail) tail

ascends : {K V : Type 0} (R : K → K → Ordering) (total : IsTotalOrder R) (e : K × V) (es : List (K × V)) → IsRising R (e ∷ es) → Ascends R e.0 es
ascends R total e [] h = tt
ascends R total e (n ∷ es) h = ((and_parts (is_lt (R e.0 n.0)) (below_all R e.0 es) (rising_head R total e (n ∷ es) h)).0, ascends R total n es (rising_tail R total e (n ∷ es) h))

-- ---- totals

total_ascends : (a : Key) (xs : List TotalParts) → Chain total_elements (Some a) xs → Ascends key_cmp a xs
total_ascends a [] h = tt
total_ascends a (x ∷ xs) h = (unless_none (is_key_before a x.0) BadOrder h.0, total_ascends x.0 xs h.1)

total_chain : (a : Key) (xs : List TotalParts) → Ascends key_cmp a xs → Chain total_elements (Some a) xs
total_chain a [] h = tt
total_chain a (x ∷ xs) h = (none_unless (is_key_before a x.0) BadOrder h.0, total_chain x.0 xs h.1)

totals_rise : (xs : List TotalParts) → Chain total_elements None xs → IsRising key_cmp xs
totals_rise [] h = refl
totals_rise (x ∷ xs) h = rises key_cmp keys_total x xs (total_ascends x.0 xs h.1)

totals_chain : (xs : List TotalParts) → IsRising key_cmp xs → Chain total_elements None xs
totals_chain [] h = tt
totals_chain (x ∷ xs) h = (refl, total_chain x.0 xs (ascends key_cmp keys_total x xs h))

pub read_are_totals : (xs : List TotalParts) → AreElements total_elements (λ t. IsTotal t.0 t.1) MOST_TOTALS xs → AreTotals xs
read_are_totals xs g = record { each = All-from_recursion (λ t. IsTotal t.0 t.1) xs g.1.0; order = totals_rise xs g.1.1; few = g.0 }

pub totals_are_read : (xs : List TotalParts) → AreTotals xs → AreElements total_elements (λ t. IsTotal t.0 t.1) MOST_TOTALS xs
totals_are_read xs g = (g.few, (by_recursion (λ t. IsTotal t.0 t.1) xs g.each, totals_chain xs g.order))

pub totals_reads : Reads totals_at AreTotals (list_bytes total_bytes)
totals_reads = reads_good totals_at (AreElements total_elements (λ t. IsTotal t.0 t.1) MOST_TOTALS) AreTotals (list_bytes total_bytes) (list_reads total_elements (λ t. IsTotal t.0 t.1) total_bytes MOST_TOTALS (omega arith) total_reads) read_are_totals totals_are_read

-- ---- cells

or_else_none : (o p : Option DecodeFault) → or_else o p ≡ None → (o ≡ None) × (p ≡ None)
or_else_none None p h = (refl, h)
or_else_none (Some f) p h = absurd cc

cell_ascends : (version : ℕ) (k : Dot → Bool) (a : Dot) (xs : List CellParts) → Chain (cell_elements version k) (Some a) xs → Ascends dot_cmp a xs × AllByRecursion (λ c. IsTrue (k c.0)) xs
cell_ascends version k a [] h = (tt, tt)
cell_ascends version k a (x ∷ xs) h =
    let here = or_else_none (order_fault is_dot_before (Some a) x.0) (unless (k x.0) BadRange) h.0 in
    let rest = cell_ascends version k x.0 xs h.1 in
    ((unless_none (is_dot_before a x.0) BadOrder here.0, rest.0), (unless_none (k x.0) BadRange here.1, rest.1))

cell_chain : (version : ℕ) (k : Dot → Bool) (a : Dot) (xs : List CellParts) → Ascends dot_cmp a xs → AllByRecursion (λ c. IsTrue (k c.0)) xs → Chain (cell_elements version k) (Some a) xs
cell_chain version k a [] h g = tt
cell_chain version k a (x ∷ xs) h g = (ap (λ o. or_else o (unless (k x.0) BadRange)) (none_unless (is_dot_before a x.0) BadOrder h.0) ∙ none_unless (k x.0) BadRange g.0, cell_chain version k x.0 xs h.1 g.1)

cells_rise : (version : ℕ) (k : Dot → Bool) (xs : List CellParts) → Chain (cell_elements version k) None xs → IsRising dot_cmp xs × AllByRecursion (λ c. IsTrue (k c.0)) xs
cells_rise version k [] h = (refl, tt)
cells_rise version k (x ∷ xs) h = let rest = cell_ascends version k x.0 xs h.1 in (rises dot_cmp dots_total x xs rest.0, (unless_none (k x.0) BadRange h.0, rest.1))

cells_chain : (version : ℕ) (k : Dot → Bool) (xs : List CellParts) → IsRising dot_cmp xs → AllByRecursion (λ c. IsTrue (k c.0)) xs → Chain (cell_elements version k) None xs
cells_chain version k [] h g = tt
cells_chain version k (x ∷ xs) h g = (none_unless (k x.0) BadRange g.0, cell_chain version k x.0 xs (ascends dot_cmp dots_total x xs h) g.1)

-- cells of a version, of dots that pass a test
pub record AreCellsOf (version : ℕ) (k : Dot → Bool) (xs : List CellParts) : Type 0 where
  pub listed : IsListOf (IsCell version) (IsRising dot_cmp) MOST_LIVE xs
  pub known : All (λ cell. IsTrue (k cell.0)) xs

pub read_are_cells : (version : ℕ) (k : Dot → Bool) (xs : List CellParts) → AreElements (cell_elements version k) (IsCell version) MOST_LIVE xs → AreCellsOf version k xs
read_are_cells version k xs g = let order = cells_rise version k xs g.1.1 in record { listed = record { each = All-from_recursion (IsCell version) xs g.1.0; order = order.0; few = g.0 }; known = All-from_recursion (λ c. IsTrue (k c.0)) xs order.1 }

pub cells_are_read : (version : ℕ) (k : Dot → Bool) (xs : List CellParts) → AreCellsOf version k xs → AreElements (cell_elements version k) (IsCell version) MOST_LIVE xs
cells_are_read version k xs g = (g.listed.few, (by_recursion (IsCell version) xs g.listed.each, cells_chain version k xs g.listed.order (by_recursion (λ c. IsTrue (k c.0)) xs g.known)))

pub cells_reads : (version : ℕ) (k : Dot → Bool) → Reads (cells_at version k) (AreCellsOf version k) (list_bytes cell_bytes)
cells_reads version k = reads_good (cells_at version k) (AreElements (cell_elements version k) (IsCell version) MOST_LIVE) (AreCellsOf version k) (list_bytes cell_bytes) (list_reads (cell_elements version k) (IsCell version) cell_bytes MOST_LIVE (omega arith) (cell_reads version)) (read_are_cells version k) (cells_are_read version k)
