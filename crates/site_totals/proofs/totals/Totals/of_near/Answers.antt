use Rattle.std.proofs.Common.{◌≡◌, ◌≤◌, sym, ap, ◌∙◌, subst}
use Rattle.dots.specs.declared.limits.TheConstants.{MOST_CALLS}
use Rattle.dots.specs.declared.call_totals.CallTotals.{CallTotals}
use Rattle.operations.specs.Totals.{totals_at, totals_of}
use Rattle.operations.proofs.TotalsLaws.{totals_at_limit}
use Rattle.site_totals.specs.TotalLists.{row_totals, entries_of}
use Rattle.site_totals.specs.Tally.{Tally}
use Rattle.site_totals.proofs.EntryLemmas.{totals_read}
use Rattle.site_totals.proofs.totals.Totals.of_near.Goals as goal
use Rattle.site_totals.proofs.totals.Totals.of_near.Goals.{After-row_totals_near}

-- the totals that are read are those of the entries
read : (c : After-row_totals_near) → c.row_totals_near.result.0 ≡ totals_at (entries_of c.self.inside.rows.items) c.new.result
read c = c.row_totals_near.ensures ∙ ap (λ rows. row_totals rows c.new.result) c.deref.ensures.value ∙ sym (totals_read c.self.inside.rows.items c.self.invariant.rising c.new.result)

pub returns-clause-value : goal.returns-clause-value
returns-clause-value c = read c ∙ ap (totals_at (entries_of c.self.inside.rows.items)) c.new.ensures.value ∙ ap (λ (t : Tally). totals_of t.entries c.args.site c.args.queue) c.self.view_is

pub returns-clause-limit : goal.returns-clause-limit
returns-clause-limit c = subst (λ (p : CallTotals). (p.completed ≤ MOST_CALLS) × (p.abandoned ≤ MOST_CALLS)) (sym (read c)) (totals_at_limit (entries_of c.self.inside.rows.items) c.self.invariant.limits c.new.result)
