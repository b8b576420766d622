use Rattle.std.proofs.Common.{sym, ap, ◌∙◌, subst}
use Rattle.std.specs.List.{All}
use Rattle.std.specs.FinMap as map
use Rattle.operations.specs.Totals.{IsTotal}
use Rattle.site_totals.specs.TotalLists.{Row}
use Rattle.site_totals.specs.Tally.{Tally}
use Rattle.site_totals.proofs.EntryLemmas.{entries_are, all_limits}
use Rattle.site_totals.proofs.totals.Totals.iter.Goals as goal

-- the list has the map's entries
pub returns-clause-entries : goal.returns-clause-entries
returns-clause-entries c = c.new.ensures ∙ c.deref.ensures.value ∙ sym (entries_are c.self.inside.rows.items c.self.invariant.rising) ∙ ap (λ (t : Tally). map.entries t.entries) c.self.view_is

pub returns-clause-limits : goal.returns-clause-limits
returns-clause-limits c = subst (λ (t : Tally). All (λ (row : Row). IsTotal row.0 row.1) (map.entries t.entries)) c.self.view_is (all_limits c.self.inside.rows.items c.self.invariant)
