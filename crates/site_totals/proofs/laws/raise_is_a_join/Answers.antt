use Rattle.std.proofs.Common.{◌≡◌, ℕ, ◌+◌, false, sym, ap, ◌∙◌, arith}
use Rattle.std.specs.FinMap as map
use Rattle.std.proofs.lemmas.Bool.Decides.{nat_tests}
use Rattle.dots.specs.declared.call_totals.CallTotals.{CallTotals}
use Rattle.dots.specs.declared.calls.Calls.{Calls}
use Rattle.dots.specs.declared.calls.Calls.TheVariants.{Completed, Abandoned}
use Rattle.dots.specs.CountedCalls.{is_zero}
use Rattle.operations.specs.Totals.{greater, totals_at}
use Rattle.operations.proofs.TotalsLaws.{by_numbers, joined_single}
use Rattle.site_totals.specs.Raising.{number_of, one_more, alone}
use Rattle.site_totals.proofs.laws.raise_is_a_join.Goals as goal

-- a total of one or more is no two zeros
some : (calls : Calls) (n : ℕ) → is_zero (alone calls (n + 1)) ≡ false
some Completed n = grind (arith, nat_tests)
some Abandoned n = grind (arith, nat_tests)

-- a total with one more call is the join with that total alone
greater_alone : (calls : Calls) (p : CallTotals) → one_more calls p ≡ greater p (alone calls (number_of calls p + 1))
greater_alone Completed p = by_numbers _ _ (omega arith) (omega arith)
greater_alone Abandoned p = by_numbers _ _ (omega arith) (omega arith)

pub returns : goal.returns
returns c x key calls =
    ap (map.insert x key) (greater_alone calls (totals_at x key))
    ∙ sym (joined_single x key (alone calls (number_of calls (totals_at x key) + 1)) (some calls (number_of calls (totals_at x key))))
