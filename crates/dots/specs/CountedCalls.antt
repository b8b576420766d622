-- Calls that are counted: their kinds, and their numbers.
use Rattle.std.specs.Prelude.{◌==◌, ◌&&◌, Bool, true, false}
use Rattle.dots.specs.declared.call_totals.CallTotals.{CallTotals}
use Rattle.dots.specs.declared.calls.Calls.{Calls}
use Rattle.dots.specs.declared.calls.Calls.TheVariants.{Completed, Abandoned}

-- whether two kinds of calls are the same: both completed, or both abandoned
abbrev pub same_calls : Calls → Calls → Bool
same_calls Completed Completed = true
same_calls Completed Abandoned = false
same_calls Abandoned Completed = false
same_calls Abandoned Abandoned = true

-- no calls: two zeros
abbrev pub no_calls : CallTotals
no_calls = record { completed = 0; abandoned = 0 }

-- whether both numbers of `totals` are zero
abbrev pub is_zero : CallTotals → Bool
is_zero totals = totals.completed == 0 && totals.abandoned == 0
