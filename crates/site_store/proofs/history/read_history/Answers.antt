use Rattle.std.proofs.Common.{◌∙◌, IfOk, IfSome, Option, None, Some, Result, Ok, Err, sym}
use Rattle.sqlite.specs.Held.{state}
use Rattle.site_store.proofs.KeptLemmas.{history_of, history_once}
use Rattle.site_store.proofs.history.read_history.Goals as goal

-- what follows of what is found
if_listed : {A B : Type 0} (r : Result (Option A) B) (P Q : A → Type 0) → ((it : A) → P it → Q it) → IfOk r (λ found. IfSome found P) → IfOk r (λ found. IfSome found Q)
if_listed (Ok (Some it)) P Q f p = f it p
if_listed (Ok None) P Q f p = tt
if_listed (Err fault) P Q f p = tt

pub returns-clause-listed : goal.returns-clause-listed
returns-clause-listed g c clean first kept list holds some =
    let trees = (state g.S.Store c.args.conn.now).now.trees in
    let both = c.in_ok-rows.ensures.listed clean holds.schema in
    if_listed c.listed_from.result _ _
    (λ it listed. history_once trees first it.first kept list it.steps.items holds.all some (history_of trees c.in_ok-rows.rows.items it.first it.steps.items both (sym c.as_slice.ensures.value ∙ listed)))
    c.listed_from.ensures.rows

pub returns-clause-found : goal.returns-clause-found
returns-clause-found g c clean has =
    let trees = (state g.S.Store c.args.conn.now).now.trees in
    let both = c.in_ok-rows.ensures.listed clean has in
    if_listed c.listed_from.result _ _ (λ it listed. history_of trees c.in_ok-rows.rows.items it.first it.steps.items both (sym c.as_slice.ensures.value ∙ listed)) c.listed_from.ensures.rows
