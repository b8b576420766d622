use Rattle.std.proofs.Common.{◌≡◌, length, sym, ap, ◌∙◌, arith}
use Rattle.std.proofs.lemmas.Bool.Decides.{nat_tests}
use Rattle.std.specs.FinMap as map
use Rattle.std.proofs.lemmas.List.{nil_from_length}
use Rattle.operations.proofs.TotalsLaws.{entries_empty}
use Rattle.site_totals.specs.TotalLists.{entries_of}
use Rattle.site_totals.specs.Tally.{Tally}
use Rattle.site_totals.proofs.EntryLemmas.{entries_are, entries_none}
use Rattle.site_totals.proofs.totals.Totals.is_empty.Goals as goal
use Rattle.site_totals.proofs.totals.Totals.is_empty.Goals.{After-is_empty}

-- a map is empty where the list of its entries is
pub returns : goal.returns
returns c =
    let rows = c.self.inside.rows in
    let is = ap (λ (t : Tally). t.entries) c.self.view_is in
    let len = c.is_empty.ensures in (
      λ yes.
          let zero : length rows.items ≡ 0 = grind (arith, nat_tests, rows.ok.0) in
          sym is ∙ ap entries_of (nil_from_length rows.items zero) ∙ entries_none,
      λ empty.
          let items = sym (entries_are rows.items c.self.invariant.rising) ∙ ap map.entries (is ∙ empty) ∙ entries_empty in
          let zero = ap length items in
          grind (arith, nat_tests, rows.ok.0),
    )
