-- The list of entries of totals, in the order of their keys.
use Rattle.std.specs.Prelude.{List, [], ◌∷◌}
use Rattle.std.specs.Option.{unwrap_or}
use Rattle.std.specs.Ordering.{on}
use Rattle.std.specs.declared.cmp.Ordering.{Ordering}
use Rattle.std.specs.FinMap as map
use Rattle.std.specs.FinMap.Entries.{by_order}
use Rattle.dots.specs.declared.call_totals.CallTotals.{CallTotals}
use Rattle.general_lemmas.specs.Fronts.{next_by}
use Rattle.general_lemmas.specs.SortedEntries.{IsRising}
use Rattle.dots.specs.CountedCalls.{no_calls}
use Rattle.operations.specs.Totals.{Key, key_cmp, Entries, InLimits, greater}

-- an entry of the list of totals: a key with its totals
abbrev pub Row : Type 0
Row = Key × CallTotals

-- the totals that the list `rows` has at `key`; no calls where it has no entry there
abbrev pub row_totals : List Row → Key → CallTotals
row_totals rows key = unwrap_or (map.find key_cmp key rows) no_calls

-- the entries of the list `rows` as a map
abbrev pub entries_of : List Row → Entries
entries_of rows = map.from_sorted rows

-- `rows` is a list of totals' entries: its keys are sorted, and each entry is within the limits
pub record IsKept (rows : List Row) : Type 0 where
  pub rising : IsRising key_cmp rows
  pub limits : InLimits (entries_of rows)

-- the order of the first keys of two lists; `Less` if only the second list is empty, `Greater` if the first is
abbrev pub next_order : List Row → List Row → Ordering
next_order = next_by (on (λ row. row.0) key_cmp)

-- the join of a list that begins with `row` and of another list, where `rest` joins what follows
-- `row` with any list
abbrev pub joined_from : Row → (List Row → List Row) → List Row → List Row
joined_from row rest [] = row ∷ rest []
joined_from row rest (other ∷ others) =
    by_order (key_cmp row.0 other.0) (row ∷ rest (other ∷ others)) ((row.0, greater row.1 other.1) ∷ rest others) (other ∷ joined_from row rest others)

-- the join of two sorted lists: each key of either once, with the greater totals where both have it
abbrev pub joined_rows : List Row → List Row → List Row
joined_rows [] others = others
joined_rows (row ∷ rows) others = joined_from row (joined_rows rows) others
