use Rattle.std.proofs.Common.{refl, sym, ap, ◌∙◌, subst}
use Rattle.operations.specs.Totals.{InLimits}
use Rattle.operations.proofs.TotalsLaws.{empty_limits}
use Rattle.site_totals.specs.TotalLists.{IsKept, entries_of}
use Rattle.site_totals.proofs.EntryLemmas.{entries_none}
use Rattle.site_totals.proofs.totals.Totals.new.Goals as goal

-- no entries are in order, and within the limits
pub invariant_of-result : goal.invariant_of-result
invariant_of-result c = subst IsKept (sym c.new.ensures.items) (record { rising = refl; limits = subst InLimits (sym entries_none) empty_limits })

pub returns : goal.returns
returns c = ap entries_of c.new.ensures.items ∙ entries_none
