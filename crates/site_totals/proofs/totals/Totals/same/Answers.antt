use Rattle.std.proofs.Common.{sym, ap, ◌∙◌}
use Rattle.std.specs.FinMap as map
use Rattle.site_totals.specs.TotalLists.{entries_of}
use Rattle.site_totals.specs.Tally.{Tally}
use Rattle.site_totals.proofs.EntryLemmas.{entries_are}
use Rattle.site_totals.proofs.totals.Totals.same.Goals as goal

-- two maps are one where the lists of their entries are
pub returns : goal.returns
returns c =
    let left = ap (λ (t : Tally). t.entries) c.self.view_is in
    let right = ap (λ (t : Tally). t.entries) c.other.view_is in (
      λ yes. sym left ∙ ap entries_of (sym c.deref.ensures.value ∙ c.same_rows.ensures.0 yes ∙ c.deref-2.ensures.value) ∙ right,
      λ same. c.same_rows.ensures.1 (
          c.deref.ensures.value ∙ sym (entries_are c.self.inside.rows.items c.self.invariant.rising)
          ∙ ap map.entries (left ∙ same ∙ sym right)
          ∙ entries_are c.other.inside.rows.items c.other.invariant.rising ∙ sym c.deref-2.ensures.value),
    )
