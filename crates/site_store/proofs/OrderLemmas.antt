-- The rows of steps that a query shows by their positions are in the order of the steps.
use Rattle.std.proofs.Common.{◌≡◌, ◌≢◌, ◌<◌, ◌+◌, ◌-◌, ◌^◌, ℕ, ℤ, zero, suc, pos, List, [], ◌∷◌, ◌++◌, map, get_or, slice_get, take, length, Option, Some, None, Bool, All, IfOk, Result, Ok, Err, IsPermutation, IsSorted, is_lt, Ordering, Less, Equal, Greater, refl, sym, ap, subst, ◌∙◌, arith}
use Rattle.std.specs.Cmp.{IsTotalOrder}
use Rattle.std.specs.List.{AllByRecursion}
use Rattle.std.specs.Ordering.{int_cmp, on, ordering_then}
use Rattle.std.proofs.lemmas.Bool.Decides.{nat_tests}
use Rattle.std.proofs.lemmas.Cmp.{int_cmp_total, on_total}
use Rattle.std.proofs.lemmas.Int.{ints}
use Rattle.std.proofs.lemmas.List.{get_or-map, length-map, length-take}
use Rattle.std.proofs.lemmas.List.Elements.{All-from_recursion, recursion_from_All}
use Rattle.std.proofs.lemmas.List.Sorted.{All-permutation, IsPermutation-sym, IsPermutation-trans}
use Rattle.sqlite.specs.declared.error.Error.{Error}
use Rattle.sqlite.specs.declared.types.Value.{Value}
use Rattle.sqlite.specs.declared.types.Value.TheVariants.{Null, Int, Real, Text, Blob}
use Rattle.sqlite.specs.Order.{Row, column, value_cmp}
use Rattle.sqlite.specs.Program.{overlay}
use Rattle.sqlite.specs.Query.{IsAnswer, Output, output, output_cmp}
use Rattle.sqlite.specs.Tree.{IsAscending, Trees}
use Rattle.sqlite_keyed.proofs.SortLemmas.{sorted_unique}
use Rattle.sqlite_value.proofs.OrderLemmas.{value_cmp-Int}
use Rattle.stored_steps.specs.Stored.{Stored}
use Rattle.site_store.specs.Steps.{Lists, rows_from, shown, step_row}
use Rattle.site_store.proofs.RowLemmas.{flat_map_single, rows_length}
use Rattle.site_store.proofs.StepLemmas.{shown_query, whole_answer}

-- ---- the order of rows by their first column

abbrev number_of : Value → ℤ
number_of Null = pos 0
number_of (Int n) = n
number_of (Real x) = pos 0
number_of (Text t) = pos 0
number_of (Blob b) = pos 0

abbrev place_of : Row → ℤ
place_of r = number_of (column r 0)

abbrev by_place : Row → Row → Ordering
by_place = on place_of int_cmp

by_place_total : IsTotalOrder by_place
by_place_total = on_total place_of int_cmp_total

less : (m n : ℕ) → m < n → int_cmp (pos m) (pos n) ≡ Less
less m n h = grind (arith, ints, nat_tests)

later : (at n : ℕ) (s : Stored) (steps : List Stored) → at < n → AllByRecursion (λ row. by_place (step_row at s) row ≡ Less) (rows_from n steps)
later at n s [] below = tt
later at n s (t ∷ steps) below = (less at n below, later at (n + 1) s steps (omega (arith, below)))

rising : (at : ℕ) (steps : List Stored) → IsAscending (λ a b. by_place a b ≡ Less) (rows_from at steps)
rising at [] = tt
rising at (s ∷ steps) = (later at (at + 1) s steps (omega arith), rising (at + 1) steps)

-- ---- what the query sorts by

-- an output of the query of the row of a step
record IsPlaced (o : Output) : Type 0 where
  pub place : ℕ
  pub key : o.0 ≡ Int (pos place) ∷ []
  pub shows : place_of o.1 ≡ pos place

same_lt : (o : Ordering) → is_lt (ordering_then o Equal) ≡ is_lt o
same_lt Less = refl
same_lt Equal = refl
same_lt Greater = refl

places_lt : (m n : ℤ) → is_lt (ordering_then (value_cmp (Int m) (Int n)) Equal) ≡ is_lt (int_cmp m n)
places_lt m n = same_lt (value_cmp (Int m) (Int n)) ∙ ap is_lt (value_cmp-Int m n)

placed_lt : (tree : ℕ) (x y : Output) → IsPlaced x → IsPlaced y → is_lt (output_cmp (shown_query tree) x y) ≡ is_lt (by_place x.1 y.1)
placed_lt tree x y p q =
    ap (λ (r : Row). is_lt (output_cmp (shown_query tree) (r, x.1) y)) p.key
    ∙ ap (λ (r : Row). is_lt (output_cmp (shown_query tree) (Int (pos p.place) ∷ [], x.1) (r, y.1))) q.key
    ∙ places_lt (pos p.place) (pos q.place)
    ∙ ap (λ (n : ℤ). is_lt (int_cmp n (pos q.place))) (sym p.shows)
    ∙ ap (λ (n : ℤ). is_lt (int_cmp (place_of x.1) n)) (sym q.shows)

rows_sorted : (tree : ℕ) (outputs : List Output) → All IsPlaced outputs → IsSorted (output_cmp (shown_query tree)) outputs → IsSorted by_place (map (λ (o : Output). o.1) outputs)
rows_sorted tree outputs placed sorted k d from below =
    let size = length-map outputs (λ (o : Output). o.1) in
    let low : k < length outputs = omega (arith, below, size) in
    let high : k + 1 < length outputs = omega (arith, below, size) in
    let e : Output = (d, d) in
    let first = get_or-map (λ (o : Output). o.1) outputs k e d low in
    let second = get_or-map (λ (o : Output). o.1) outputs (k + 1) e d high in
    rw (first, second) (sym (placed_lt tree (get_or outputs (k + 1) e) (get_or outputs k e) (placed (k + 1) e high) (placed k e low)) ∙ sorted k e from high)

-- ---- the outputs of a table of steps

-- a row is shown as that of a step
record IsStep (row : Row) : Type 0 where
  pub place : ℕ
  pub step : Stored
  pub is : row ≡ step_row place step

each_step : (at : ℕ) (steps : List Stored) → AllByRecursion IsStep (rows_from at steps)
each_step at [] = tt
each_step at (s ∷ steps) = (record { place = at; step = s; is = refl }, each_step (at + 1) steps)

abbrev placed : Row → Output
placed r = (column r 0 ∷ [], shown r)

each_placed : (table : List Row) → AllByRecursion IsStep (map shown table) → AllByRecursion IsPlaced (map placed table)
each_placed [] all = tt
each_placed (r ∷ table) all = (here all.0, each_placed table all.1)
  where
    here : IsStep (shown r) → IsPlaced (placed r)
    here it =
        let first : column r 0 ≡ Int (pos it.place) = ap (λ (x : Row). column x 0) it.is in record {
          place = it.place;
          key = ap (λ (v : Value). v ∷ []) first;
          shows = ap number_of first;
        }

outputs_are : (tree : ℕ) (table : List Row) → map (output (shown_query tree)) (map (λ (r : Row). [] ∷ r ∷ []) table) ≡ map placed table
outputs_are tree [] = refl
outputs_are tree (r ∷ table) = ap (λ (l : List Output). placed r ∷ l) (outputs_are tree table)

-- an answer of the query shows the rows of the steps that a table lists in their order
pub answer_in_order : (tree : ℕ) (trees : Trees) (rows : List Row) → overlay trees [] tree ≡ trees tree → IsAnswer (shown_query tree) (overlay trees []) [] rows → (at : ℕ) (steps : List Stored) → Lists (trees tree) at steps
    → rows ≡ rows_from at steps
answer_in_order tree trees rows found a at steps lists =
    let table = trees tree in
    let shows : List Row = map shown table in
    let staged : a.staged ≡ map (λ (r : Row). [] ∷ r ∷ []) table = a.grouped ∙ flat_map_single _ (overlay trees [] tree) ∙ ap (map (λ (r : Row). [] ∷ r ∷ [])) found in
    let kept : a.kept ≡ map placed table = a.distinct ∙ ap (map (output (shown_query tree))) staged ∙ outputs_are tree table in
    let same : IsPermutation (map placed table) a.ordered = subst (λ (l : List Output). IsPermutation l a.ordered) kept a.same in
    let of_steps = IsPermutation-sym shows (rows_from at steps) lists in
    let each = All-permutation IsStep (rows_from at steps) shows of_steps (All-from_recursion IsStep (rows_from at steps) (each_step at steps)) in
    let table_placed = All-from_recursion IsPlaced (map placed table) (each_placed table (recursion_from_All IsStep shows each)) in
    let all = All-permutation IsPlaced (map placed table) a.ordered same table_placed in
    let is : rows ≡ map (λ (o : Output). o.1) a.ordered = a.shown in
    let sorted : IsSorted by_place rows = subst (λ (l : List Row). IsSorted by_place l) (sym is) (rows_sorted tree a.ordered all a.sorted) in
    let whole = IsPermutation-trans (rows_from at steps) shows rows of_steps (whole_answer tree _ _ _ trees [] rows found a) in
    sorted_unique by_place by_place_total (rows_from at steps) rows (rising at steps) whole sorted

-- ---- rows among those of steps

-- the rows of steps and of more steps
pub rows_from-append : (at : ℕ) (steps more : List Stored) → rows_from at (steps ++ more) ≡ rows_from at steps ++ rows_from (at + length steps) more
rows_from-append at [] more = let same : at ≡ at + 0 = omega arith in ap (λ (n : ℕ). rows_from n more) same
rows_from-append at (s ∷ steps) more =
    let rest = rows_from-append (at + 1) steps more in
    let same : at + 1 + length steps ≡ at + length (s ∷ steps) = omega arith in
    ap (λ (rows : List Row). step_row at s ∷ rows) (rest ∙ ap (λ (n : ℕ). rows_from (at + 1) steps ++ rows_from n more) same)

-- the row of one of the steps
pub row_at : (at : ℕ) (steps : List Stored) (i : ℕ) (d : Row) → i < length (rows_from at steps) → (s : Stored) × (get_or (rows_from at steps) i d ≡ step_row (at + i) s)
row_at at [] i d low = absurd (omega (arith, low))
row_at at (s ∷ steps) zero d low = (s, let same : at + 0 ≡ at = omega arith in ap (λ (n : ℕ). step_row n s) (sym same))
row_at at (s ∷ steps) (suc i) d low =
    let rest = row_at (at + 1) steps i d (omega (arith, low)) in
    let same : at + 1 + i ≡ at + suc i = omega arith in
    (rest.0, rest.1 ∙ ap (λ (n : ℕ). step_row n rest.0) same)

-- the first of the rows of steps is at the first position
pub first_place : (first : ℕ) (steps : List Stored) (rows : List Row) (front : Row) → Some front ≡ slice_get rows 0 → rows ≡ rows_from first steps → steps ≢ [] → column front 0 ≡ Int (pos first)
first_place first [] rows row is are some = absurd (some refl)
first_place first (s ∷ steps) rows row is are some =
    let found : Some row ≡ Some (step_row first s) = is ∙ ap (λ (l : List Row). slice_get l 0) are in
    let same : row ≡ step_row first s = cc in
    ap (λ (r : Row). column r 0) same

pub no_first : (first : ℕ) (steps : List Stored) (rows : List Row) → ◌≡◌ {A = Option Row} None (slice_get rows 0) → rows ≡ rows_from first steps → steps ≡ []
no_first first [] rows is are = refl
no_first first (s ∷ steps) rows is are =
    absurd (let found : ◌≡◌ {A = Option Row} None (Some (step_row first s)) = is ∙ ap (λ (l : List Row). slice_get l 0) are in cc)

pub read_first : (first : ℕ) (value : Value) (P : Type 0) (r : Result ℕ Error) → IfOk r (λ n. P × (value ≡ Int (pos n))) → value ≡ Int (pos first) → IfOk r (λ n. n ≡ first)
read_first first value P (Ok n) read is = let both : Int (pos n) ≡ Int (pos first) = sym read.1 ∙ is in cc
read_first first value P (Err error) read is = tt

-- where rows are read of steps one after another, the next is the row of a step, at a position below 2^64 - 1
pub next_place : (first at i : ℕ) (items : List Stored) (rows : List Row) → at ≡ first + length items → rows_from first items ≡ take i rows → i < length rows → at ≡ first + i
next_place first at i items rows is taken low = omega (arith, is, rows_length first items, ap length taken, length-take i rows, low)

pub next_row : (first at i : ℕ) (items steps : List Stored) (rows : List Row) (row : Row) → at ≡ first + length items → rows_from first items ≡ take i rows → i < length rows → row ≡ get_or rows i row
    → rows ≡ rows_from first steps → (s : Stored) × (row ≡ step_row at s)
next_row first at i items steps rows row is taken low found are =
    let there = row_at first steps i row (omega (arith, low, ap length are)) in
    (there.0, found ∙ ap (λ (l : List Row). get_or l i row) are ∙ there.1 ∙ ap (λ (n : ℕ). step_row n there.0) (sym (next_place first at i items rows is taken low)))

pub next_below : (first at i : ℕ) (items steps : List Stored) (rows : List Row) → at ≡ first + length items → rows_from first items ≡ take i rows → i < length rows → rows ≡ rows_from first steps → first + length steps < 2 ^ 64
    → at < 2 ^ 64 - 1
next_below first at i items steps rows is taken low are fits =
    omega (arith, next_place first at i items rows is taken low, low, ap length are, rows_length first steps, fits)
