use Rattle.std.proofs.Common.{◌≡◌, ◌+◌, ◌++◌, inr, List, length, sym, ap, ap₂, subst, ◌∙◌, rules}
use Rattle.sqlite.specs.Effect.{Database}
use Rattle.sqlite.specs.Order.{Row}
use Rattle.sqlite.specs.State.{HasCleanDisk}
use Rattle.sqlite.specs.Tree.{Trees}
use Rattle.sqlite.specs.Held.{state}
use Rattle.site_store.specs.Steps.{Lists}
use Rattle.site_store.proofs.OrderLemmas.{rows_from-append}
use Rattle.site_store.proofs.history.query_both.Goals as goal

pub returns-in-Ok-joined-clause-in_order : goal.returns-in-Ok-joined-clause-in_order
returns-in-Ok-joined-clause-in_order g c clean first kept list holds =
    let joined : c.append-joined.new.self.items ≡ c.in_ok-kept.kept.items ++ c.in-Ok.rows.items = search rules in
    let before : HasCleanDisk (state g.S.Store c.query_kept.new.conn) = c.query_rows.ensures.reads.clean clean in
    let front = c.in_ok-kept.ensures.in_order before holds.schema first kept holds.all.kept_are in
    let same = c.in_ok-kept.ensures.reads.same before holds.schema in
    let trees = ap (λ (d : Database). d.trees) same.0.now_is in
    let schema = ap (λ (d : Database). d.schema) same.0.now_is in
    let back = c.in-Ok.ensures.in_order clean (inr (schema ∙ holds.schema)) (first + length kept) list (subst (λ (t : Trees). Lists (t 0) (first + length kept) list) (sym trees) holds.all.list_are) in
    joined ∙ ap₂ (λ (xs ys : List Row). xs ++ ys) front back ∙ sym (rows_from-append first kept list)
