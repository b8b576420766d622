use Rattle.std.proofs.Common.{◌≡◌, ◌-◌, ◌≤◌, sym, ap, ◌∙◌, subst, arith}
use Rattle.std.specs.Vec.{vec_len, vec_capacity}
use Rattle.operations.specs.Totals.{count_missing}
use Rattle.site_totals.specs.TotalLists.{entries_of}
use Rattle.site_totals.specs.Tally.{Tally, HasRoomFor}
use Rattle.site_totals.proofs.totals.Totals.prepare.Goals as goal

-- nothing is asked of memory where there is room
pub returns-clause-succeeds : goal.returns-clause-succeeds
returns-clause-succeeds c room =
    let missing : c.count_missing-missing.result ≡ count_missing (entries_of c.self.inside.rows.items) c.args.other.now.entries =
    c.count_missing-missing.ensures.value ∙ (λ i. count_missing (entries_of (c.deref.ensures.value i)) (entries_of (c.deref-2.ensures.value i))) ∙ ap (λ (t : Tally). count_missing (entries_of c.self.inside.rows.items) t.entries) c.other.view_is in
    let fits : count_missing (entries_of c.self.inside.rows.items) c.args.other.now.entries ≤ vec_capacity c.self.inside.rows - vec_len c.self.inside.rows =
    subst (λ (t : Tally). HasRoomFor t c.args.other.now.entries) (sym c.self.view_is) room in
    c.reserve.ensures.succeeds (omega (arith, missing, fits, c.self.inside.rows.ok.1))
