-- The join of two lists of entries, each in the order of its keys.
use Rattle.std.proofs.Common.{◌≡◌, ℕ, suc, ◌+◌, ◌<◌, ◌≤◌, Bool, true, false, cond, List, [], ◌∷◌, length, get_or, drop, Option, Some, None, is_none, refl, sym, ap, ◌∙◌, subst, zero-add, arith}
use Rattle.std.specs.List.{count_by}
use Rattle.std.specs.declared.cmp.Ordering.TheVariants.{Less, Equal, Greater}
use Rattle.std.specs.Ordering.{is_eq, is_lt}
use Rattle.std.specs.FinMap as map
use Rattle.std.specs.FinMap.Entries.{below_all, by_order}
use Rattle.std.proofs.lemmas.Bool.{and_from, and_parts}
use Rattle.std.proofs.lemmas.List.Sums.{sum_by-cons}
use Rattle.dots.specs.declared.call_totals.CallTotals.{CallTotals}
use Rattle.general_lemmas.specs.SortedEntries.{IsRising}
use Rattle.operations.specs.Totals.{Key, key_cmp, greater, join_of, count_missing, InLimits}
use Rattle.general_lemmas.proofs.Fronts.{open_at}
use Rattle.general_lemmas.proofs.SortedEntries.{less_back, greater_back, rising_head, rising_tail, below_first, find_below}
use Rattle.operations.proofs.TotalsLaws.{keys_total, exact_keys, is_key, one_key, either, either_none, none_either, get_joined, same_totals, joined_limits}
use Rattle.general_lemmas.proofs.TruthTables.{less_of}
use Rattle.site_totals.specs.TotalLists.{Row, IsKept, entries_of, joined_rows, next_order}
use Rattle.site_totals.proofs.EntryLemmas.{get_is, count_missing_in}

-- nothing joined in changes nothing
pub joined_rows_none : (rows : List Row) → joined_rows rows [] ≡ rows
joined_rows_none [] = refl
joined_rows_none (row ∷ rows) = ap (λ rest. row ∷ rest) (joined_rows_none rows)

-- ---- one entry after the other

-- the entry of the least key is the first of the one list, of the other, or the join of both
less_front : (row : Row) (rows others : List Row) → Less ≡ next_order (row ∷ rows) others → joined_rows (row ∷ rows) others ≡ row ∷ joined_rows rows others
less_front row rows [] h = refl
less_front row rows (other ∷ others) h =
    ap (λ o. by_order o (row ∷ joined_rows rows (other ∷ others)) ((row.0, greater row.1 other.1) ∷ joined_rows rows others) (other ∷ joined_rows (row ∷ rows) others)) (sym h)

greater_front : (other : Row) (rows others : List Row) → Greater ≡ next_order rows (other ∷ others) → joined_rows rows (other ∷ others) ≡ other ∷ joined_rows rows others
greater_front other [] others h = refl
greater_front other (row ∷ rows) others h =
    ap (λ o. by_order o (row ∷ joined_rows rows (other ∷ others)) ((row.0, greater row.1 other.1) ∷ joined_rows rows others) (other ∷ joined_rows (row ∷ rows) others)) (sym h)

equal_front : (row other : Row) (rows others : List Row) → Equal ≡ next_order (row ∷ rows) (other ∷ others) → joined_rows (row ∷ rows) (other ∷ others) ≡ (row.0, greater row.1 other.1) ∷ joined_rows rows others
equal_front row other rows others h =
    ap (λ o. by_order o (row ∷ joined_rows rows (other ∷ others)) ((row.0, greater row.1 other.1) ∷ joined_rows rows others) (other ∷ joined_rows (row ∷ rows) others)) (sym h)

-- the entry of the least key is the first of the one list, by places
pub less_at : (rows others : List Row) (i : ℕ) (row : Row) → i < length rows → row ≡ get_or rows i row → Less ≡ next_order (drop i rows) others
    → joined_rows (drop i rows) others ≡ row ∷ joined_rows (drop (i + 1) rows) others
less_at rows others i row lt is h =
    let begins = open_at rows i row lt is in
    ap (λ left. joined_rows left others) begins ∙ less_front row (drop (i + 1) rows) others (h ∙ ap (λ left. next_order left others) begins)

pub greater_at : (rows others : List Row) (j : ℕ) (other : Row) → j < length others → other ≡ get_or others j other → Greater ≡ next_order rows (drop j others)
    → joined_rows rows (drop j others) ≡ other ∷ joined_rows rows (drop (j + 1) others)
greater_at rows others j other lt is h =
    let begins = open_at others j other lt is in
    ap (joined_rows rows) begins ∙ greater_front other rows (drop (j + 1) others) (h ∙ ap (next_order rows) begins)

pub equal_at : (rows others : List Row) (i j : ℕ) (row other : Row) → i < length rows → row ≡ get_or rows i row → j < length others → other ≡ get_or others j other
    → Equal ≡ next_order (drop i rows) (drop j others)
    → joined_rows (drop i rows) (drop j others) ≡ (row.0, greater row.1 other.1) ∷ joined_rows (drop (i + 1) rows) (drop (j + 1) others)
equal_at rows others i j row other lt is lt_there is_there h =
    let begins = open_at rows i row lt is in
    let begins_there = open_at others j other lt_there is_there in
    (λ k. joined_rows (begins k) (begins_there k)) ∙ equal_front row other (drop (i + 1) rows) (drop (j + 1) others) (h ∙ (λ k. next_order (begins k) (begins_there k)))

-- ---- how many entries it has

-- at least as many as the first list, and at most as many as both
abbrev IsBetween : List Row → List Row → List Row → Type 0
IsBetween rows others whole = (length rows ≤ length whole) × (length whole ≤ length rows + length others)

lengths_from : (row : Row) (rows : List Row) → ((others : List Row) → IsBetween rows others (joined_rows rows others)) → (others : List Row) → IsBetween (row ∷ rows) others (joined_rows (row ∷ rows) others)
lengths_from row rows rest [] = let h = rest [] in (omega (arith, h.0), omega (arith, h.1))
lengths_from row rows rest (other ∷ others) =
    elim (key_cmp row.0 other.0) as (λ o. IsBetween (row ∷ rows) (other ∷ others) (by_order o (row ∷ joined_rows rows (other ∷ others)) ((row.0, greater row.1 other.1) ∷ joined_rows rows others) (other ∷ joined_rows (row ∷ rows) others))) [
      | Less ↦ let h = rest (other ∷ others) in (omega (arith, h.0), omega (arith, h.1))
      | Equal ↦ let h = rest others in (omega (arith, h.0), omega (arith, h.1))
      | Greater ↦ let h = lengths_from row rows rest others in (omega (arith, h.0), omega (arith, h.1))
    ]

pub joined_lengths : (rows others : List Row) → IsBetween rows others (joined_rows rows others)
joined_lengths [] others = (omega arith, omega arith)
joined_lengths (row ∷ rows) others = lengths_from row rows (joined_lengths rows) others

-- ---- what is found in it

first_left : (b : Bool) (v : CallTotals) (x y : Option CallTotals) → (b ≡ true → y ≡ None) → cond b (Some v) (either x y) ≡ either (cond b (Some v) x) y
first_left true v x y absent = sym (either_none (Some v)) ∙ ap (either (Some v)) (sym (absent refl))
first_left false v x y absent = refl

first_right : (b : Bool) (v : CallTotals) (x y : Option CallTotals) → (b ≡ true → x ≡ None) → cond b (Some v) (either x y) ≡ either x (cond b (Some v) y)
first_right true v x y absent = sym (none_either (Some v)) ∙ ap (λ o. either o (Some v)) (sym (absent refl))
first_right false v x y absent = refl

first_both : (b : Bool) (v w : CallTotals) (x y : Option CallTotals) → cond b (Some (greater v w)) (either x y) ≡ either (cond b (Some v) x) (cond b (Some w) y)
first_both true v w x y = refl
first_both false v w x y = refl

-- a key is found in the join as it is found in both
module _ (q : Key) where
  find_from : (row : Row) (rows : List Row) → IsRising key_cmp (row ∷ rows)
      → ((others : List Row) → IsRising key_cmp others → map.find key_cmp q (joined_rows rows others) ≡ either (map.find key_cmp q rows) (map.find key_cmp q others))
      → (others : List Row) → IsRising key_cmp others → map.find key_cmp q (joined_rows (row ∷ rows) others) ≡ either (map.find key_cmp q (row ∷ rows)) (map.find key_cmp q others)
  find_from row rows h rest [] k = ap (map.find key_cmp q) (joined_rows_none (row ∷ rows)) ∙ sym (either_none (map.find key_cmp q (row ∷ rows)))
  find_from row rows h rest (other ∷ others) k =
      elim (key_cmp row.0 other.0) as (λ o. key_cmp row.0 other.0 ≡ o
      → map.find key_cmp q (by_order o (row ∷ joined_rows rows (other ∷ others)) ((row.0, greater row.1 other.1) ∷ joined_rows rows others) (other ∷ joined_rows (row ∷ rows) others))
      ≡ either (map.find key_cmp q (row ∷ rows)) (map.find key_cmp q (other ∷ others))) [
        | Less ↦ λ less.
            ap (cond (is_key q row.0) (Some row.1)) (rest (other ∷ others) k)
            ∙ first_left (is_key q row.0) row.1 (map.find key_cmp q rows) (map.find key_cmp q (other ∷ others)) (λ same.
            ap (λ key. map.find key_cmp key (other ∷ others)) (one_key q row.0 same)
            ∙ find_below key_cmp keys_total row.0 (other ∷ others) (below_first key_cmp keys_total row.0 other others less k))
        | Equal ↦ λ equal.
            ap (cond (is_key q row.0) (Some (greater row.1 other.1))) (rest others (rising_tail key_cmp keys_total other others k))
            ∙ first_both (is_key q row.0) row.1 other.1 (map.find key_cmp q rows) (map.find key_cmp q others)
            ∙ ap (λ key. either (map.find key_cmp q (row ∷ rows)) (cond (is_key q key) (Some other.1) (map.find key_cmp q others))) (exact_keys row.0 other.0 equal)
        | Greater ↦ λ more.
            ap (cond (is_key q other.0) (Some other.1)) (find_from row rows h rest others (rising_tail key_cmp keys_total other others k))
            ∙ first_right (is_key q other.0) other.1 (map.find key_cmp q (row ∷ rows)) (map.find key_cmp q others) (λ same.
            ap (λ key. map.find key_cmp key (row ∷ rows)) (one_key q other.0 same)
            ∙ find_below key_cmp keys_total other.0 (row ∷ rows) (below_first key_cmp keys_total other.0 row rows (greater_back key_cmp keys_total row.0 other.0 more) h))
      ] refl

  find_joined_rows : (rows others : List Row) → IsRising key_cmp rows → IsRising key_cmp others → map.find key_cmp q (joined_rows rows others) ≡ either (map.find key_cmp q rows) (map.find key_cmp q others)
  find_joined_rows [] others h k = sym (none_either (map.find key_cmp q others))
  find_joined_rows (row ∷ rows) others h k = find_from row rows h (λ left. find_joined_rows rows left (rising_tail key_cmp keys_total row rows h)) others k

-- ---- its keys rise

-- what lies before both lists lies before the join
module _ (key : Key) where
  below_from_row : (row : Row) (rows : List Row) → below_all key_cmp key (row ∷ rows) ≡ true
      → ((others : List Row) → below_all key_cmp key others ≡ true → below_all key_cmp key (joined_rows rows others) ≡ true)
      → (others : List Row) → below_all key_cmp key others ≡ true → below_all key_cmp key (joined_rows (row ∷ rows) others) ≡ true
  below_from_row row rows h rest [] k = ap (below_all key_cmp key) (joined_rows_none (row ∷ rows)) ∙ h
  below_from_row row rows h rest (other ∷ others) k =
      let own = and_parts (is_lt (key_cmp key row.0)) (below_all key_cmp key rows) h in
      let theirs = and_parts (is_lt (key_cmp key other.0)) (below_all key_cmp key others) k in
      elim (key_cmp row.0 other.0) as (λ o. below_all key_cmp key (by_order o (row ∷ joined_rows rows (other ∷ others)) ((row.0, greater row.1 other.1) ∷ joined_rows rows others) (other ∷ joined_rows (row ∷ rows) others)) ≡ true) [
        | Less ↦ and_from (is_lt (key_cmp key row.0)) (below_all key_cmp key (joined_rows rows (other ∷ others))) own.0 (rest (other ∷ others) k)
        | Equal ↦ and_from (is_lt (key_cmp key row.0)) (below_all key_cmp key (joined_rows rows others)) own.0 (rest others theirs.1)
        | Greater ↦ and_from (is_lt (key_cmp key other.0)) (below_all key_cmp key (joined_rows (row ∷ rows) others)) theirs.0 (below_from_row row rows h rest others theirs.1)
      ]

  below_joined_rows : (rows others : List Row) → below_all key_cmp key rows ≡ true → below_all key_cmp key others ≡ true → below_all key_cmp key (joined_rows rows others) ≡ true
  below_joined_rows [] others h k = k
  below_joined_rows (row ∷ rows) others h k =
      below_from_row row rows h (λ left. below_joined_rows rows left (and_parts (is_lt (key_cmp key row.0)) (below_all key_cmp key rows) h).1) others k

rising_from : (row : Row) (rows : List Row) → IsRising key_cmp (row ∷ rows) → ((others : List Row) → IsRising key_cmp others → IsRising key_cmp (joined_rows rows others)) → (others : List Row) → IsRising key_cmp others → IsRising key_cmp (joined_rows (row ∷ rows) others)
rising_from row rows h rest [] k = ap (map.is_sorted key_cmp) (joined_rows_none (row ∷ rows)) ∙ h
rising_from row rows h rest (other ∷ others) k =
    let own = rising_head key_cmp keys_total row rows h in
    let theirs = rising_head key_cmp keys_total other others k in
    let left = rising_tail key_cmp keys_total other others k in
    elim (key_cmp row.0 other.0) as (λ o. key_cmp row.0 other.0 ≡ o
    → IsRising key_cmp (by_order o (row ∷ joined_rows rows (other ∷ others)) ((row.0, greater row.1 other.1) ∷ joined_rows rows others) (other ∷ joined_rows (row ∷ rows) others))) [
      | Less ↦ λ less. and_from (below_all key_cmp row.0 (joined_rows rows (other ∷ others))) (map.is_sorted key_cmp (joined_rows rows (other ∷ others)))
          (below_joined_rows row.0 rows (other ∷ others) own (below_first key_cmp keys_total row.0 other others less k)) (rest (other ∷ others) k)
      | Equal ↦ λ equal. and_from (below_all key_cmp row.0 (joined_rows rows others)) (map.is_sorted key_cmp (joined_rows rows others))
          (below_joined_rows row.0 rows others own (subst (λ key. below_all key_cmp key others ≡ true) (sym (exact_keys row.0 other.0 equal)) theirs)) (rest others left)
      | Greater ↦ λ more. and_from (below_all key_cmp other.0 (joined_rows (row ∷ rows) others)) (map.is_sorted key_cmp (joined_rows (row ∷ rows) others))
          (below_joined_rows other.0 (row ∷ rows) others (below_first key_cmp keys_total other.0 row rows (greater_back key_cmp keys_total row.0 other.0 more) h) theirs)
          (rising_from row rows h rest others left)
    ] refl

rising_joined : (rows others : List Row) → IsRising key_cmp rows → IsRising key_cmp others → IsRising key_cmp (joined_rows rows others)
rising_joined [] others h k = k
rising_joined (row ∷ rows) others h k = rising_from row rows h (λ left. rising_joined rows left (rising_tail key_cmp keys_total row rows h)) others k

-- the joined list has the entries of the join, and is within the limits if both are
pub joined_rows_are : (rows others : List Row) → IsRising key_cmp rows → IsRising key_cmp others → entries_of (joined_rows rows others) ≡ join_of (entries_of rows) (entries_of others)
joined_rows_are rows others h k = same_totals _ _ (λ q.
    get_is (joined_rows rows others) (rising_joined rows others h k) q
    ∙ find_joined_rows q rows others h k
    ∙ (λ i. either (sym (get_is rows h q) i) (sym (get_is others k q) i))
    ∙ sym (get_joined (entries_of rows) (entries_of others) q))

pub kept_joined : (rows others : List Row) → IsKept rows → IsKept others → IsKept (joined_rows rows others)
kept_joined rows others h k = record {
  rising = rising_joined rows others h.rising k.rising;
  limits = subst InLimits (sym (joined_rows_are rows others h.rising k.rising)) (joined_limits (entries_of rows) (entries_of others) h.limits k.limits);
}

-- ---- it is longer by the keys that were missing

-- how many keys of the others aren't found
abbrev missing_in : List Row → List Row → ℕ
missing_in rows others = count_by (λ (other : Row). is_none (map.find key_cmp other.0 rows)) others

missing_cons : (rows : List Row) (other : Row) (others : List Row) → missing_in rows (other ∷ others) ≡ cond (is_none (map.find key_cmp other.0 rows)) 1 0 + missing_in rows others
missing_cons rows other others = sum_by-cons (λ (other : Row). cond (is_none (map.find key_cmp other.0 rows)) 1 0) other others

missing_found : (rows : List Row) (other : Row) (others : List Row) → is_none (map.find key_cmp other.0 rows) ≡ false → missing_in rows (other ∷ others) ≡ missing_in rows others
missing_found rows other others found = missing_cons rows other others ∙ ap (λ b. cond b 1 0 + missing_in rows others) found ∙ zero-add _

missing_absent : (rows : List Row) (other : Row) (others : List Row) → is_none (map.find key_cmp other.0 rows) ≡ true → missing_in rows (other ∷ others) ≡ suc (missing_in rows others)
missing_absent rows other others absent = let one = missing_cons rows other others ∙ ap (λ b. cond b 1 0 + missing_in rows others) absent in omega (arith, one)

missing_all : (others : List Row) → missing_in [] others ≡ length others
missing_all [] = refl
missing_all (other ∷ others) = omega (arith, missing_cons [] other others, missing_all others)

-- a key that lies before the others is none of theirs
missing_past : (row : Row) (rows others : List Row) → below_all key_cmp row.0 others ≡ true → missing_in (row ∷ rows) others ≡ missing_in rows others
missing_past row rows [] h = refl
missing_past row rows (other ∷ others) h =
    let parts = and_parts (is_lt (key_cmp row.0 other.0)) (below_all key_cmp row.0 others) h in
    let apart : is_key other.0 row.0 ≡ false = ap is_eq (less_back key_cmp keys_total row.0 other.0 (less_of _ parts.0)) in
    missing_cons (row ∷ rows) other others
    ∙ (λ i. cond (is_none (cond (apart i) (Some row.1) (map.find key_cmp other.0 rows))) 1 0 + missing_past row rows others parts.1 i)
    ∙ sym (missing_cons rows other others)

abbrev IsLonger : List Row → List Row → List Row → Type 0
IsLonger rows others whole = length whole ≡ length rows + missing_in rows others

longer_from : (row : Row) (rows : List Row) → IsRising key_cmp (row ∷ rows) → ((others : List Row) → IsRising key_cmp others → IsLonger rows others (joined_rows rows others)) → (others : List Row) → IsRising key_cmp others → IsLonger (row ∷ rows) others (joined_rows (row ∷ rows) others)
longer_from row rows h rest [] k = let none = ap length (joined_rows_none (row ∷ rows)) in omega (arith, none)
longer_from row rows h rest (other ∷ others) k =
    let theirs = rising_head key_cmp keys_total other others k in
    let left = rising_tail key_cmp keys_total other others k in
    elim (key_cmp row.0 other.0) as (λ o. key_cmp row.0 other.0 ≡ o
    → IsLonger (row ∷ rows) (other ∷ others) (by_order o (row ∷ joined_rows rows (other ∷ others)) ((row.0, greater row.1 other.1) ∷ joined_rows rows others) (other ∷ joined_rows (row ∷ rows) others))) [
      | Less ↦ λ less.
          let past = missing_past row rows (other ∷ others) (below_first key_cmp keys_total row.0 other others less k) in
          omega (arith, past, rest (other ∷ others) k)
      | Equal ↦ λ equal.
          let same = exact_keys row.0 other.0 equal in
          let tied = ap (λ key. key_cmp key row.0) (sym same) ∙ ap (key_cmp row.0) same ∙ equal in
          let found = missing_found (row ∷ rows) other others (ap (λ o. is_none (cond (is_eq o) (Some row.1) (map.find key_cmp other.0 rows))) tied) in
          let past = missing_past row rows others (subst (λ key. below_all key_cmp key others ≡ true) (sym same) theirs) in
          omega (arith, found, past, rest others left)
      | Greater ↦ λ more.
          let absent = missing_absent (row ∷ rows) other others (ap is_none (find_below key_cmp keys_total other.0 (row ∷ rows) (below_first key_cmp keys_total other.0 row rows (greater_back key_cmp keys_total row.0 other.0 more) h))) in
          omega (arith, absent, longer_from row rows h rest others left)
    ] refl

longer : (rows others : List Row) → IsRising key_cmp rows → IsRising key_cmp others → IsLonger rows others (joined_rows rows others)
longer [] others h k = sym (missing_all others) ∙ sym (zero-add _)
longer (row ∷ rows) others h k = longer_from row rows h (λ left. longer rows left (rising_tail key_cmp keys_total row rows h)) others k

pub length_joined_rows : (rows others : List Row) → IsRising key_cmp rows → IsRising key_cmp others → length (joined_rows rows others) ≡ length rows + count_missing (entries_of rows) (entries_of others)
length_joined_rows rows others h k = longer rows others h k ∙ ap (λ n. length rows + n) (sym (count_missing_in rows others h k))
