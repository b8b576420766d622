-- What an edit of the list does to the map of its entries.
use Rattle.std.proofs.Common.{◌≡◌, ℕ, ◌+◌, ◌<◌, ◌≤◌, Bool, true, false, cond, List, [], ◌∷◌, length, get_or, map as each, Option, Some, None, is_some, is_none, refl, sym, ap, ◌∙◌, subst, arith}
use lib.Dec.{T}
use Rattle.std.specs.Option.{unwrap_or}
use Rattle.std.specs.List.{All, count_by}
use Rattle.std.specs.FinMap as map
use Rattle.std.proofs.lemmas.List.{get_or_default}
use Rattle.std.proofs.lemmas.List.Elements.{All-from_get_or}
use Rattle.std.proofs.lemmas.List.Sums.{sum_by-cons}
use Rattle.dots.specs.declared.limits.TheConstants.{MOST_CALLS, QUEUES}
use Rattle.dots.specs.declared.call_totals.CallTotals.{CallTotals}
use Rattle.dots.specs.declared.calls.Calls.{Calls}
use Rattle.dots.specs.declared.calls.Calls.TheVariants.{Completed, Abandoned}
use Rattle.general_lemmas.specs.SortedEntries.{IsRising}
use Rattle.dots.specs.CountedCalls.{no_calls, is_zero}
use Rattle.operations.specs.Totals.{Key, key_cmp, Entries, greater, totals_at, join_of, single, count_missing, IsTotal, InLimits}
use Rattle.general_lemmas.proofs.SortedEntries.{find_at}
use Rattle.general_lemmas.proofs.TruthTables.{fact, truth}
use Rattle.operations.proofs.TotalsLaws.{keys_total, joined_single, joined_limits, count_missing_single, same_totals, is_key, one_key, totals_at_limit}
use Rattle.dots.specs.Values.{IsSite}
use Rattle.site_totals.specs.Raising.{number_of, one_more, raised_totals}
use Rattle.site_totals.specs.TotalLists.{Row, IsKept, row_totals, entries_of}

-- the map has these entries
pub entries_are : (rows : List Row) → IsRising key_cmp rows → map.entries (entries_of rows) ≡ rows
entries_are rows h = map.entries-from_sorted key_cmp rows (truth _ h)

-- the map of a list reads as the list
pub get_is : (rows : List Row) → IsRising key_cmp rows → (key : Key) → map.get (entries_of rows) key ≡ map.find key_cmp key rows
get_is rows h key = map.get-from_sorted key_cmp rows key (truth _ h)

pub totals_read : (rows : List Row) → IsRising key_cmp rows → (key : Key) → totals_at (entries_of rows) key ≡ row_totals rows key
totals_read rows h key = ap (λ o. unwrap_or o no_calls) (get_is rows h key)

-- to put totals in the list is to insert them in the map
entries_put : (rows : List Row) → IsRising key_cmp rows → (key : Key) (totals : CallTotals) → map.entries (map.insert (entries_of rows) key totals) ≡ map.put key_cmp key totals rows
entries_put rows h key totals = map.entries-insert keys_total (entries_of rows) key totals ∙ ap (map.put key_cmp key totals) (entries_are rows h)

pub rising_put : (rows : List Row) → IsRising key_cmp rows → (key : Key) (totals : CallTotals) → IsRising key_cmp (map.put key_cmp key totals rows)
rising_put rows h key totals = fact _ (subst (λ es. T (map.is_sorted key_cmp es)) (entries_put rows h key totals) (map.entries_sorted (map.insert (entries_of rows) key totals)))

pub entries_of_put : (rows : List Row) → IsRising key_cmp rows → (key : Key) (totals : CallTotals) → entries_of (map.put key_cmp key totals rows) ≡ map.insert (entries_of rows) key totals
entries_of_put rows h key totals = map.same_entries_map _ _ (entries_are _ (rising_put rows h key totals) ∙ sym (entries_put rows h key totals))

more_if : (o : Option CallTotals) (n : ℕ) → cond (is_some o) n (n + 1) ≡ n + cond (is_none o) 1 0
more_if None n = refl
more_if (Some p) n = omega arith

-- a key that is missing makes the list longer by one
pub length_put : (rows : List Row) → IsRising key_cmp rows → (key : Key) (totals : CallTotals) → length (map.put key_cmp key totals rows) ≡ length rows + cond (is_none (map.find key_cmp key rows)) 1 0
length_put rows h key totals =
    sym (ap length (entries_put rows h key totals)) ∙ sym (map.len-entries (map.insert (entries_of rows) key totals))
    ∙ map.len-insert keys_total (entries_of rows) key totals
    ∙ more_if (map.get (entries_of rows) key) (map.len (entries_of rows))
    ∙ (λ i. (map.len-entries (entries_of rows) ∙ ap length (entries_are rows h)) i + cond (is_none (get_is rows h key i)) 1 0)

-- ---- one entry joined in
module _ (rows : List Row) (h : IsRising key_cmp rows) (key : Key) (totals : CallTotals) (some : is_zero totals ≡ false) where
  pub joined_by_put : entries_of (map.put key_cmp key (greater (row_totals rows key) totals) rows) ≡ join_of (entries_of rows) (single key totals)
  joined_by_put =
      entries_of_put rows h key (greater (row_totals rows key) totals)
      ∙ ap (λ p. map.insert (entries_of rows) key (greater p totals)) (sym (totals_read rows h key))
      ∙ sym (joined_single (entries_of rows) key totals some)

  pub missing_one : count_missing (entries_of rows) (single key totals) ≡ cond (is_none (map.find key_cmp key rows)) 1 0
  missing_one = count_missing_single (entries_of rows) key totals some ∙ ap (λ o. cond (is_none o) 1 0) (get_is rows h key)

-- a list stays within the limits when one entry is joined
pub kept_by_put : (rows : List Row) → IsKept rows → (key : Key) (totals : CallTotals) → is_zero totals ≡ false → InLimits (single key totals) → IsKept (map.put key_cmp key (greater (row_totals rows key) totals) rows)
kept_by_put rows h key totals some limits = record {
  rising = rising_put rows h.rising key (greater (row_totals rows key) totals);
  limits = subst InLimits (sym (joined_by_put rows h.rising key totals some)) (joined_limits (entries_of rows) (single key totals) h.limits limits);
}

-- ---- what is missing
count_each : (p : Key → Bool) (rows : List Row) → count_by p (each (λ row. row.0) rows) ≡ count_by (λ (row : Row). p row.0) rows
count_each p [] = refl
count_each p (row ∷ rows) =
    sum_by-cons (λ k. cond (p k) 1 0) row.0 (each (λ row. row.0) rows)
    ∙ ap (λ n. cond (p row.0) 1 0 + n) (count_each p rows)
    ∙ sym (sum_by-cons (λ (row : Row). cond (p row.0) 1 0) row rows)

-- the missing keys are counted in the list
pub count_missing_is : (x : Entries) (rows : List Row) → IsRising key_cmp rows → count_missing x (entries_of rows) ≡ count_by (λ (row : Row). is_none (map.get x row.0)) rows
count_missing_is x rows h =
    ap (λ es. count_by (λ k. is_none (map.get x k)) (each (λ row. row.0) es)) (entries_are rows h)
    ∙ count_each (λ k. is_none (map.get x k)) rows

pub count_missing_in : (rows others : List Row) → IsRising key_cmp rows → IsRising key_cmp others → count_missing (entries_of rows) (entries_of others) ≡ count_by (λ (row : Row). is_none (map.find key_cmp row.0 rows)) others
count_missing_in rows others h k =
    count_missing_is (entries_of rows) others k
    ∙ (λ i. count_by (λ (row : Row). is_none (get_is rows h row.0 i)) others)

-- the entry at a place may be kept
pub limits_at : (rows : List Row) → IsKept rows → (i : ℕ) (d : Row) → i < length rows → IsTotal (get_or rows i d).0 (get_or rows i d).1
limits_at rows h i d lt = h.limits _ _ (get_is rows h.rising (get_or rows i d).0 ∙ find_at key_cmp keys_total rows h.rising (get_or rows i d).0 i d (record { in_range = lt; has_key = λ none. ap (λ (row : Row). row.0) (get_or_default rows i none d lt) }))

-- no entries make nothing
pub entries_none : entries_of [] ≡ map.empty
entries_none = same_totals _ _ (λ q. get_is [] refl q ∙ sym (map.get-empty key_cmp q))

-- each entry of the map may be kept
pub all_limits : (rows : List Row) → IsKept rows → All (λ (row : Row). IsTotal row.0 row.1) (map.entries (entries_of rows))
all_limits rows h = subst (All (λ (row : Row). IsTotal row.0 row.1)) (sym (entries_are rows h.rising))
    (All-from_get_or (λ (row : Row). IsTotal row.0 row.1) rows (record { site = 0; queue = 0 }, no_calls) (λ i lt. limits_at rows h i _ lt))

-- ---- one more call
below_full : (calls : Calls) (key : Key) (totals : CallTotals) → number_of calls totals < MOST_CALLS → (totals.completed ≤ MOST_CALLS) × (totals.abandoned ≤ MOST_CALLS) → IsSite key.site → key.queue < QUEUES → IsTotal key (one_more calls totals)
below_full Completed key totals few limit site queue = record { site = site; queue = queue; completed = omega (arith, few); abandoned = limit.1; counted = omega arith }
below_full Abandoned key totals few limit site queue = record { site = site; queue = queue; completed = limit.0; abandoned = omega (arith, few); counted = omega arith }

-- a number is within the limits
pub number_limit : (calls : Calls) (totals : CallTotals) → (totals.completed ≤ MOST_CALLS) × (totals.abandoned ≤ MOST_CALLS) → number_of calls totals ≤ MOST_CALLS
number_limit Completed totals limit = limit.0
number_limit Abandoned totals limit = limit.1

-- the number of one more is one more
pub number_of_one_more : (calls : Calls) (totals : CallTotals) → number_of calls (one_more calls totals) ≡ number_of calls totals + 1
number_of_one_more Completed totals = refl
number_of_one_more Abandoned totals = refl

insert_limits : (x : Entries) → InLimits x → (key : Key) (totals : CallTotals) → IsTotal key totals → InLimits (map.insert x key totals)
insert_limits x h key totals total q p e =
    elim (is_key q key) as (λ b. is_key q key ≡ b → IsTotal q p) [
      | true ↦ λ same. subst (λ k. IsTotal k p) (sym (one_key q key same)) (subst (IsTotal key) (ap (λ o. unwrap_or o totals) (ap (λ b. cond b (Some totals) (map.get x q)) (sym same) ∙ found)) total)
      | false ↦ λ other. h q p (ap (λ b. cond b (Some totals) (map.get x q)) (sym other) ∙ found)
    ] refl
  where
    found : cond (is_key q key) (Some totals) (map.get x q) ≡ Some p
    found = sym (map.get-insert keys_total x key totals q) ∙ e

pub kept_by_raise : (rows : List Row) → IsKept rows → (key : Key) (calls : Calls) → number_of calls (row_totals rows key) < MOST_CALLS → IsSite key.site → key.queue < QUEUES → IsKept (map.put key_cmp key (one_more calls (row_totals rows key)) rows)
kept_by_raise rows h key calls few site queue = record {
  rising = rising_put rows h.rising key (one_more calls (row_totals rows key));
  limits = subst InLimits (sym (entries_of_put rows h.rising key (one_more calls (row_totals rows key))))
      (insert_limits (entries_of rows) h.limits key (one_more calls (row_totals rows key))
      (below_full calls key (row_totals rows key) few (subst (λ (p : CallTotals). (p.completed ≤ MOST_CALLS) × (p.abandoned ≤ MOST_CALLS)) (totals_read rows h.rising key) (totals_at_limit (entries_of rows) h.limits key)) site queue));
}

pub raised_by_put : (rows : List Row) → IsRising key_cmp rows → (key : Key) (calls : Calls) → entries_of (map.put key_cmp key (one_more calls (row_totals rows key)) rows) ≡ raised_totals (entries_of rows) key calls
raised_by_put rows h key calls =
    entries_of_put rows h key (one_more calls (row_totals rows key))
    ∙ ap (λ p. map.insert (entries_of rows) key (one_more calls p)) (sym (totals_read rows h key))
