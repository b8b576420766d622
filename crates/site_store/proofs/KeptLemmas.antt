-- Rows that move from one table to another, as lists.
use Rattle.std.proofs.Common.{◌≡◌, ◌≢◌, ℕ, ℤ, pos, zero, suc, ◌+◌, ◌<◌, List, [], ◌∷◌, ◌++◌, map, length, get_or, Bool, true, false, not, ◌||◌, All, refl, sym, ap, ap₂, subst, ◌∙◌, arith}
use Rattle.std.specs.List.{list_any}
use Rattle.std.specs.List.Sorted.{IsPermutation}
use Rattle.std.proofs.lemmas.Bool.{and_parts}
use Rattle.std.proofs.lemmas.Cmp.{tied_itself}
use Rattle.std.proofs.lemmas.List.{map-append}
use Rattle.std.proofs.lemmas.List.Elements.{All-cons, All-head, All-nil, All-tail}
use Rattle.std.proofs.lemmas.List.Folds.{list_any_at}
use Rattle.std.proofs.lemmas.List.Sorted.{IsPermutation-refl, IsPermutation-sym, IsPermutation-trans, IsPermutation-middle, IsPermutation-map, IsPermutation-append, IsPermutation-append_right, IsPermutation-append_comm, All-permutation, length_permutation}
use Rattle.sqlite.specs.declared.types.Value.{Value}
use Rattle.sqlite.specs.declared.types.Value.TheVariants.{Null, Int, Blob}
use Rattle.sqlite.specs.Order.{Row, column}
use Rattle.sqlite_value.proofs.OrderLemmas.{value_cmp_total}
use Rattle.sqlite.specs.Cast.{cast_row}
use Rattle.sqlite.specs.Tree.{Trees, rowid, has_rowid, put_row, without_rowid}
use Rattle.sqlite.specs.Edit.{id_in, are_fresh, numbered, put_all, with_rowid, without_all}
use Rattle.sqlite.specs.Rowids.TheVariants.{Chosen}
use Rattle.stored_steps.specs.Stored.{Stored}
use Rattle.site_store.specs.Kept.{AreOfBoth, IsHistory, ListsAll}
use Rattle.site_store.specs.Steps.{kept_table, shown, step_row, rows_from, Lists}
use Rattle.site_store.proofs.RowLemmas.{lists_once, put_fresh, rows_length}
use Rattle.site_store.proofs.StepLemmas.{cast_int}

-- the rows of two lists are those of one, and then of the other
pub rows_from-append : (at : ℕ) (xs ys : List Stored) → rows_from at (xs ++ ys) ≡ rows_from at xs ++ rows_from (at + length xs) ys
rows_from-append at [] ys = let same : at ≡ at + 0 = omega arith in ap (λ n. rows_from n ys) same
rows_from-append at (x ∷ xs) ys =
    let more = rows_from-append (at + 1) xs ys in
    let same : at + 1 + length xs ≡ at + length (x ∷ xs) = omega arith in
    ap (λ rows. step_row at x ∷ rows) (rw same at more)

-- what holds of each image
all_of_map : {X Y : Type 0} (P : Y → Type 0) (f : X → Y) (xs : List X) → All P (map f xs) → All (λ x. P (f x)) xs
all_of_map P f [] h = All-nil (λ x. P (f x))
all_of_map P f (x ∷ xs) h = All-cons (λ x. P (f x)) x xs (All-head P (f x) (map f xs) h) (all_of_map P f xs (All-tail P (f x) (map f xs) h))

-- ---- rows of steps

-- a row is that of a step
abbrev pub IsStepRow : Row → Type 0
IsStepRow row = (at : ℕ) × (s : Stored) × (row ≡ step_row at s)

each_is : (at : ℕ) (list : List Stored) → All IsStepRow (rows_from at list)
each_is at [] = All-nil IsStepRow
each_is at (s ∷ more) = All-cons IsStepRow (step_row at s) (rows_from (at + 1) more) (at, s, refl) (each_is (at + 1) more)

-- rows that list steps show those
pub are_step_rows : (rows : List Row) (at : ℕ) (list : List Stored) → Lists rows at list → All (λ r. IsStepRow (shown r)) rows
are_step_rows rows at list lists =
    all_of_map IsStepRow shown rows (All-permutation IsStepRow (rows_from at list) (map shown rows) (IsPermutation-sym (map shown rows) (rows_from at list) lists) (each_is at list))

-- ---- copies of rows

-- what an insert is given of a row
abbrev pub copied : Row → Row
copied r = column r 0 ∷ Null ∷ column r 2 ∷ column r 3 ∷ column r 4 ∷ column r 5 ∷ []

-- a row as an insert is given it
abbrev pub given_row : ℕ → Stored → Value → Row
given_row at s words = Int (pos at) ∷ Null ∷ Int (pos s.pass) ∷ Int (pos s.kind) ∷ Blob s.bytes ∷ words ∷ []

abbrev pub IsGiven : Row → Type 0
IsGiven row = (at : ℕ) × (s : Stored) × (words : Value) × (row ≡ given_row at s words)

copied_is : (r : Row) → IsStepRow (shown r) → IsGiven (copied r)
copied_is r h =
    let at = h.0 in
    let s = h.1 in
    let e : shown r ≡ step_row at s = h.2 in
    let one : column r 0 ≡ Int (pos at) = cc in
    let two : column r 2 ≡ Int (pos s.pass) = cc in
    let three : column r 3 ≡ Int (pos s.kind) = cc in
    let four : column r 4 ≡ Blob s.bytes = cc in
    (at, s, column r 5, λ i. one i ∷ Null ∷ two i ∷ three i ∷ four i ∷ column r 5 ∷ [])

pub copies_are : (rows : List Row) → All (λ r. IsStepRow (shown r)) rows → All IsGiven (map copied rows)
copies_are [] h = All-nil IsGiven
copies_are (r ∷ rows) h =
    All-cons IsGiven (copied r) (map copied rows) (copied_is r (All-head (λ x. IsStepRow (shown x)) r rows h)) (copies_are rows (All-tail (λ x. IsStepRow (shown x)) r rows h))

abbrev pub stored_copy : Row → Row
stored_copy = cast_row kept_table

given_shows : (at : ℕ) (s : Stored) (words : Value) → shown (stored_copy (given_row at s words)) ≡ step_row at s
given_shows at s words = λ i. cast_int at i ∷ cast_int s.pass i ∷ cast_int s.kind i ∷ Blob s.bytes ∷ []

-- a copy shows what the row shows that it is of, and keeps its rowid
copy_shows : (row : Row) → IsGiven row → shown (stored_copy row) ≡ shown row
copy_shows row h = ap (λ r. shown (stored_copy r)) h.3 ∙ given_shows h.0 h.1 h.2 ∙ sym (ap shown h.3)

copy_id : (row : Row) → (h : IsGiven row) → rowid (stored_copy row) ≡ Int (pos h.0)
copy_id row h = ap (λ r. rowid (stored_copy r)) h.3 ∙ cast_int h.0

pub copies_show : (rows : List Row) → All IsGiven rows → map shown (map stored_copy rows) ≡ map shown rows
copies_show [] h = refl
copies_show (r ∷ rows) h = ap₂ (λ (x : Row) (xs : List Row). x ∷ xs) (copy_shows r (All-head IsGiven r rows h)) (copies_show rows (All-tail IsGiven r rows h))

keeps_id : (rows : List Row) (row : Row) (n : ℕ) → rowid row ≡ Int (pos n) → with_rowid Chosen rows row ≡ row
keeps_id rows row n e = rw e

-- rows that have rowids keep them
pub copies_numbered : (rows olds : List Row) → All IsGiven rows → numbered Chosen olds (map stored_copy rows) ≡ map stored_copy rows
copies_numbered [] olds h = refl
copies_numbered (r ∷ rows) olds h =
    let given = All-head IsGiven r rows h in
    let same = keeps_id olds (stored_copy r) given.0 (copy_id r given) in
    ap₂ (λ (x : Row) (xs : List Row). x ∷ xs) same (copies_numbered rows (put_row (with_rowid Chosen olds (stored_copy r)) olds) (All-tail IsGiven r rows h))

not_taken : (b : Bool) → not b ≡ true → b ≡ false
not_taken true h = absurd cc
not_taken false h = refl

-- rows whose rowids no row has are put beside the others
pub put_all_fresh : (news rows : List Row) → are_fresh rows news ≡ true → IsPermutation (news ++ rows) (put_all rows news)
put_all_fresh [] rows fresh = IsPermutation-refl rows
put_all_fresh (n ∷ news) rows fresh =
    let parts = and_parts _ _ fresh in
    let put = put_fresh n rows (not_taken _ parts.0) in
    let aside = IsPermutation-append_right news (n ∷ rows) (put_row n rows) put in
    let front = IsPermutation-sym (news ++ n ∷ rows) (n ∷ (news ++ rows)) (IsPermutation-middle news n rows) in
    IsPermutation-trans (n ∷ (news ++ rows)) (news ++ put_row n rows) (put_all (put_row n rows) news) (IsPermutation-trans (n ∷ (news ++ rows)) (news ++ n ∷ rows) (news ++ put_row n rows) front aside)
    (put_all_fresh news (put_row n rows) parts.1)

-- where copies of all rows of the one table are put into the other, that lists its steps and then those
pub lists_copied : (olds steps rows : List Row) (first : ℕ) (kept list : List Stored) → Lists olds first kept → Lists steps (first + length kept) list → IsPermutation (map copied steps) rows
    → are_fresh olds (map stored_copy rows) ≡ true → Lists (put_all olds (map stored_copy rows)) first (kept ++ list)
lists_copied olds steps rows first kept list one two same fresh =
    let news = map stored_copy rows in
    let given : All IsGiven rows = All-permutation IsGiven (map copied steps) rows same (copies_are steps (are_step_rows steps (first + length kept) list two)) in
    let all = IsPermutation-map shown (put_all olds news) (news ++ olds) (IsPermutation-sym (news ++ olds) (put_all olds news) (put_all_fresh news olds fresh)) in
    let parts : map shown (news ++ olds) ≡ map shown rows ++ map shown olds = map-append shown news olds ∙ ap (λ (xs : List Row). xs ++ map shown olds) (copies_show rows given) in
    let shows : IsPermutation (map shown rows) (map shown (map copied steps)) = IsPermutation-map shown rows (map copied steps) (IsPermutation-sym (map copied steps) rows same) in
    let listed : IsPermutation (map shown rows) (rows_from (first + length kept) list) =
    IsPermutation-trans (map shown rows) (map shown steps) (rows_from (first + length kept) list) (subst (λ xs. IsPermutation (map shown rows) xs) (shown_copies steps) shows) two in
    let both = IsPermutation-append (map shown rows) (rows_from (first + length kept) list) (map shown olds) (rows_from first kept) listed one in
    let turned = IsPermutation-append_comm (rows_from (first + length kept) list) (rows_from first kept) in
    let whole = IsPermutation-trans _ _ _ (IsPermutation-trans _ _ _ (subst (λ xs. IsPermutation (map shown (put_all olds news)) xs) parts all) both) turned in
    subst (λ xs. IsPermutation (map shown (put_all olds news)) xs) (sym (rows_from-append first kept list)) whole
  where
    shown_copies : (xs : List Row) → map shown (map copied xs) ≡ map shown xs
    shown_copies [] = refl
    shown_copies (x ∷ xs) = ap (λ (ys : List Row). shown x ∷ ys) (shown_copies xs)

-- ---- rows that are deleted

-- what a delete is given of a row
abbrev pub id_row : Row → Row
id_row r = column r 0 ∷ []

abbrev ids : List Row → List ℤ
ids rows = map (λ r. id_in (rowid r)) rows

-- an id of these takes out the row
abbrev IsAmong : List ℤ → Row → Type 0
IsAmong all row = list_any (λ id. has_rowid id row) all ≡ true

itself : (row : Row) (n : ℕ) → rowid row ≡ Int (pos n) → has_rowid (id_in (rowid row)) row ≡ true
itself row n e = rw (e, tied_itself value_cmp_total (Int (pos n)))

at_map : {X Y : Type 0} (f : X → Y) (xs : List X) (i : ℕ) (d : X) → i < length xs → get_or (map f xs) i (f d) ≡ f (get_or xs i d)
at_map f [] i d low = absurd (omega arith)
at_map f (x ∷ xs) zero d low = refl
at_map f (x ∷ xs) (suc i) d low = at_map f xs i d (omega arith)

length_ids : (xs : List Row) → length (ids xs) ≡ length xs
length_ids [] = refl
length_ids (x ∷ xs) = ap suc (length_ids xs)

-- each row is among its own ids
are_among : (rows : List Row) → All (λ r. (n : ℕ) × (rowid r ≡ Int (pos n))) rows → All (IsAmong (ids rows)) rows
are_among rows h i d low =
    let row = get_or rows i d in
    let at = at_map (λ r. id_in (rowid r)) rows i d low in
    let e = h i d low in
    list_any_at (λ id. has_rowid id row) (ids rows) i (id_in (rowid d)) (omega (arith, length_ids rows, low)) (ap (λ id. has_rowid id row) at ∙ itself row e.0 e.1)

taken_out : (b : Bool) (x : Row) (xs : List Row) (id : ℤ) (more : List ℤ) → has_rowid id x ≡ b → (b || list_any (λ id. has_rowid id x) more) ≡ true
    → ((ys : List Row) → list_any (λ id. has_rowid id x) more ≡ true → without_all (x ∷ ys) more ≡ without_all ys more) → without_all (without_rowid id (x ∷ xs)) more ≡ without_all (without_rowid id xs) more
taken_out true x xs id more e any later = rw e
taken_out false x xs id more e any later = rw e (later (without_rowid id xs) any)

-- a row that is among the ids is taken out
without_first : (all : List ℤ) (x : Row) (xs : List Row) → IsAmong all x → without_all (x ∷ xs) all ≡ without_all xs all
without_first [] x xs among = absurd cc
without_first (id ∷ more) x xs among = taken_out (has_rowid id x) x xs id more refl among (λ ys later. without_first more x ys later)

without_none : (all : List ℤ) → without_all [] all ≡ []
without_none [] = refl
without_none (id ∷ more) = without_none more

without_each : (all : List ℤ) (rows : List Row) → All (IsAmong all) rows → without_all rows all ≡ []
without_each all [] h = without_none all
without_each all (x ∷ rows) h = without_first all x rows (All-head (IsAmong all) x rows h) ∙ without_each all rows (All-tail (IsAmong all) x rows h)

id_of : (r : Row) → IsStepRow (shown r) → (n : ℕ) × (rowid (id_row r) ≡ Int (pos n))
id_of r h =
    let e : shown r ≡ step_row h.0 h.1 = h.2 in
    let one : column r 0 ≡ Int (pos h.0) = cc in
    (h.0, one)

have_ids : (rows : List Row) → All (λ r. IsStepRow (shown r)) rows → All (λ r. (n : ℕ) × (rowid r ≡ Int (pos n))) (map id_row rows)
have_ids [] h = All-nil (λ r. (n : ℕ) × (rowid r ≡ Int (pos n)))
have_ids (r ∷ rows) h =
    All-cons (λ r. (n : ℕ) × (rowid r ≡ Int (pos n))) (id_row r) (map id_row rows) (id_of r (All-head (λ x. IsStepRow (shown x)) r rows h)) (have_ids rows (All-tail (λ x. IsStepRow (shown x)) r rows h))

-- where the ids of all rows are given, none is left
pub none_left : (steps rows : List Row) (at : ℕ) (list : List Stored) → Lists steps at list → IsPermutation (map id_row steps) rows → without_all steps (ids rows) ≡ []
none_left steps rows at list lists same =
    let given = All-permutation (λ (r : Row). (n : ℕ) × (rowid r ≡ Int (pos n))) (map id_row steps) rows same (have_ids steps (are_step_rows steps at list lists)) in
    let among = All-permutation (IsAmong (ids rows)) rows (map id_row steps) (IsPermutation-sym (map id_row steps) rows same) (are_among rows given) in
    without_each (ids rows) steps (all_of_map (IsAmong (ids rows)) id_row steps among)

-- ---- all rows that a store has

-- rows that stand at positions one after the other, in two parts
split_rows : (at : ℕ) (items : List Stored) (xs ys : List Row) → xs ++ ys ≡ rows_from at items
    → (kept : List Stored) × (list : List Stored) × (items ≡ kept ++ list) × (xs ≡ rows_from at kept) × (ys ≡ rows_from (at + length kept) list)
split_rows at items [] ys e = let same : at ≡ at + 0 = omega arith in ([], items, refl, refl, e ∙ ap (λ n. rows_from n items) same)
split_rows at [] (x ∷ xs) ys e = absurd (cc)
split_rows at (s ∷ more) (x ∷ xs) ys e =
    let one : x ≡ step_row at s = cc in
    let rest : xs ++ ys ≡ rows_from (at + 1) more = cc in
    let it = split_rows (at + 1) more xs ys rest in
    let same : at + 1 + length it.0 ≡ at + length (s ∷ it.0) = omega arith in
    (s ∷ it.0, it.1, ap (λ (l : List Stored). s ∷ l) it.2, ap₂ (λ (a : Row) (b : List Row). a ∷ b) one it.3, it.4 ∙ ap (λ n. rows_from n it.1) same)

-- the rows that are read of both tables are all rows
pub history_of : (trees : Trees) (rows : List Row) (first : ℕ) (items : List Stored) → AreOfBoth trees rows → rows ≡ rows_from first items → IsHistory trees first items
history_of trees rows first items of listed =
    let it = split_rows first items of.kept of.steps (sym of.rows_are ∙ listed) in record {
      kept = it.0;
      list = it.1;
      rows_are = it.2;
      all = record { kept_are = subst (λ xs. IsPermutation (map shown (trees 1)) xs) it.3 of.kept_are; list_are = subst (λ xs. IsPermutation (map shown (trees 0)) xs) it.4 of.steps_are };
    }

-- tables list one run of kept rows and steps alone
pub history_once : (trees : Trees) (first at : ℕ) (kept list items : List Stored) → ListsAll trees first kept list → list ≢ [] → IsHistory trees at items → (at ≡ first) × (items ≡ kept ++ list)
history_once trees first at kept list items all some it =
    let last = lists_once (trees 0) (first + length kept) (at + length it.kept) list it.list all.list_are it.all.list_are some in
    let size : length kept ≡ length it.kept =
    sym (rows_length first kept) ∙ length_permutation (map shown (trees 1)) (rows_from first kept) all.kept_are ∙ sym (length_permutation (map shown (trees 1)) (rows_from at it.kept) it.all.kept_are) ∙ rows_length at it.kept in
    let start : first ≡ at = omega (arith, last.0, size) in
    let same = same_kept first at kept it.kept start size all.kept_are it.all.kept_are in
    (sym start, it.rows_are ∙ ap₂ (λ (xs : List Stored) (ys : List Stored). xs ++ ys) (sym same) (sym last.1))
  where
    same_kept : (first at : ℕ) (one two : List Stored) → first ≡ at → length one ≡ length two → Lists (trees 1) first one → Lists (trees 1) at two → one ≡ two
    same_kept first at [] [] start size one two = refl
    same_kept first at [] (y ∷ ys) start size one two = absurd (omega arith)
    same_kept first at (x ∷ xs) ys start size one two = (lists_once (trees 1) first at (x ∷ xs) ys one two (λ e. cc)).1
