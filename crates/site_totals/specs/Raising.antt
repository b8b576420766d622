-- One more call in totals.
use Rattle.std.specs.Prelude.{ℕ, ◌+◌}
use Rattle.std.specs.FinMap as map
use Rattle.dots.specs.declared.call_totals.CallTotals.{CallTotals}
use Rattle.dots.specs.declared.calls.Calls.{Calls}
use Rattle.dots.specs.declared.calls.Calls.TheVariants.{Completed, Abandoned}
use Rattle.operations.specs.Totals.{Key, Entries, totals_at}

-- how many calls of the given kind are counted in `totals`
abbrev pub number_of : Calls → CallTotals → ℕ
number_of Completed totals = totals.completed
number_of Abandoned totals = totals.abandoned

-- `totals` with one call more of the given kind
abbrev pub one_more : Calls → CallTotals → CallTotals
one_more Completed totals = record { completed = totals.completed + 1; abandoned = totals.abandoned }
one_more Abandoned totals = record { completed = totals.completed; abandoned = totals.abandoned + 1 }

-- `entries` with one call more of the kind `calls` at `key`
abbrev pub raised_totals : Entries → Key → Calls → Entries
raised_totals entries key calls = map.insert entries key (one_more calls (totals_at entries key))

-- `n` calls of the given kind, and none of the other
abbrev pub alone : Calls → ℕ → CallTotals
alone Completed n = record { completed = n; abandoned = 0 }
alone Abandoned n = record { completed = 0; abandoned = n }
