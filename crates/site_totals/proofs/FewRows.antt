-- Entries joined in one after the other, from the first on.
use Rattle.std.proofs.Common.{◌≡◌, ℕ, zero, suc, ◌+◌, ◌≤◌, Bool, true, false, cond, List, [], ◌∷◌, drop, Option, Some, None, is_none, refl, sym, ap, ◌∙◌, arith}
use Rattle.std.specs.List.{count_by}
use Rattle.std.specs.FinMap as map
use Rattle.std.proofs.lemmas.List.Sums.{sum_by-cons}
use Rattle.dots.specs.declared.call_totals.CallTotals.{CallTotals}
use Rattle.general_lemmas.specs.SortedEntries.{IsRising}
use Rattle.dots.specs.CountedCalls.{is_zero}
use Rattle.operations.specs.Totals.{Entries, count_missing, join_of, key_cmp, single}
use Rattle.general_lemmas.proofs.SortedEntries.{find_below, rising_head, rising_tail}
use Rattle.operations.proofs.TotalsLaws.{count_missing_single, either, either_none, get_joined, get_single_some, is_key, keys_total, none_either, one_key, same_totals}
use Rattle.site_totals.specs.TotalLists.{Row, entries_of}
use Rattle.site_totals.proofs.EntryLemmas.{count_missing_is, get_is}

-- what is left of a list that rises does so
pub rising_drop : (rows : List Row) (i : ℕ) → IsRising key_cmp rows → IsRising key_cmp (drop i rows)
rising_drop rows zero h = h
rising_drop [] (suc i) h = h
rising_drop (row ∷ rows) (suc i) h = rising_drop rows i (rising_tail key_cmp keys_total row rows h)

-- a first entry is one that is joined to those that follow
pub front_joined : (row : Row) (rows : List Row) → IsRising key_cmp (row ∷ rows) → is_zero row.1 ≡ false → entries_of (row ∷ rows) ≡ join_of (single row.0 row.1) (entries_of rows)
front_joined row rows h some = same_totals _ _ (λ q.
    get_is (row ∷ rows) h q
    ∙ front (is_key q row.0) row.1 (map.find key_cmp q rows) (λ same.
    ap (λ key. map.find key_cmp key rows) (one_key q row.0 same) ∙ find_below key_cmp keys_total row.0 rows (rising_head key_cmp keys_total row rows h))
    ∙ (λ i. either (sym (get_single_some row.0 row.1 q some) i) (sym (get_is rows (rising_tail key_cmp keys_total row rows h) q) i))
    ∙ sym (get_joined (single row.0 row.1) (entries_of rows) q))
  where
    front : (b : Bool) (v : CallTotals) (o : Option CallTotals) → (b ≡ true → o ≡ None) → cond b (Some v) o ≡ either (cond b (Some v) None) o
    front true v o absent = sym (either_none (Some v)) ∙ ap (either (Some v)) (sym (absent refl))
    front false v o absent = sym (none_either o)

-- one more entry leaves no more keys missing
fewer : (a b : Option CallTotals) → cond (is_none (either a b)) 1 0 ≤ cond (is_none a) 1 0
fewer None None = omega arith
fewer None (Some p) = omega arith
fewer (Some p) b = omega arith

missing_after : (x y : Entries) (rows : List Row) → count_by (λ (row : Row). is_none (map.get (join_of x y) row.0)) rows ≤ count_by (λ (row : Row). is_none (map.get x row.0)) rows
missing_after x y [] = omega arith
missing_after x y (row ∷ rows) =
    let after = sum_by-cons (λ (row : Row). cond (is_none (map.get (join_of x y) row.0)) 1 0) row rows in
    let before = sum_by-cons (λ (row : Row). cond (is_none (map.get x row.0)) 1 0) row rows in
    let one = ap {B = ℕ} (λ o. cond (is_none o) 1 0) (get_joined x y row.0) in
    omega (arith, after, before, one, fewer (map.get x row.0) (map.get y row.0), missing_after x y rows)

-- the keys missing of a list are those of its first entry, and of the others once that is joined
pub front_missing : (x : Entries) (row : Row) (rows : List Row) → IsRising key_cmp (row ∷ rows) → is_zero row.1 ≡ false
    → count_missing x (single row.0 row.1) + count_missing (join_of x (single row.0 row.1)) (entries_of rows) ≤ count_missing x (entries_of (row ∷ rows))
front_missing x row rows h some =
    let one = count_missing_single x row.0 row.1 some in
    let left = count_missing_is (join_of x (single row.0 row.1)) rows (rising_tail key_cmp keys_total row rows h) in
    let all = count_missing_is x (row ∷ rows) h in
    let parts = sum_by-cons (λ (row : Row). cond (is_none (map.get x row.0)) 1 0) row rows in
    omega (arith, one, left, all, parts, missing_after x (single row.0 row.1) rows)
