use Rattle.std.proofs.Common.{◌≡◌, ◌∷◌, ℕ, List, IfOk, sym, subst}
use Rattle.stored_steps.specs.Restoring.{IsRestoredSite}
use Rattle.stored_steps.specs.RowsLead.{MakeSite}
use Rattle.stored_steps.specs.StoreFaults.{IsOutOfRoom}
use Rattle.stored_steps.specs.Stored.{Stored}
use Rattle.stored_steps.proofs.Refusing.{out_of_rest, rest_leads}
use Rattle.stored_steps.proofs.restoring.restore.Goals as goal

pub returns-clause-restored : goal.returns-clause-restored
returns-clause-restored c =
    let rows : c.args.rows.now ≡ c.in-Some.row.now ∷ c.in-Some.rest.now = c.in-Some.ensures.cases.0 in
    subst (λ (l : List Stored). IfOk c.restore_from.result (λ it. IsRestoredSite l it)) (sym rows) (c.restore_from.ensures.restored c.in-Some.row.now c.in-Ok.ensures.read)

pub returns-clause-site : goal.returns-clause-site
returns-clause-site c = subst (λ (n : ℕ). IfOk c.restore_from.result (λ it. it.journal.replica.site ≡ n)) c.in-Ok.ensures.site c.restore_from.ensures.site

pub returns-clause-names : goal.returns-clause-names
returns-clause-names c = subst (λ (l : List (List ℕ)). IfOk c.restore_from.result (λ it. it.journal.replica.names ≡ l)) c.in-Ok.ensures.names c.restore_from.ensures.names

pub returns-clause-limit : goal.returns-clause-limit
returns-clause-limit c = c.restore_from.ensures.limit

pub returns-clause-makes : goal.returns-clause-makes
returns-clause-makes c makes =
    let rows : c.args.rows.now ≡ c.in-Some.row.now ∷ c.in-Some.rest.now = c.in-Some.ensures.cases.0 in
    let here : MakeSite c.args.site c.args.list.now (c.in-Some.row.now ∷ c.in-Some.rest.now) = subst (λ (l : List Stored). MakeSite c.args.site c.args.list.now l) rows makes in
    let led = rest_leads c.args.site c.args.list.now c.in-Some.row.now c.in-Some.rest.now c.in-Ok.base c.in-Ok.ensures.read here in
    out_of_rest c.in-Some.row.now c.in-Some.rest.now c.args.rows.now rows c.restore_from.result (c.restore_from.ensures.refused led.0 led.1)
