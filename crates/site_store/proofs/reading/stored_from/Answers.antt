use Rattle.std.proofs.Common.{◌≡◌, ◌++◌, ◌∷◌, [], ◌∙◌, ap, ap₂, sym, arith, rules}
use Rattle.std.proofs.lemmas.List.{take_more}
use Rattle.sqlite.specs.Order.{Row}
use Rattle.site_store.specs.Steps.{step_row}
use Rattle.site_store.proofs.OrderLemmas.{next_below, next_row}
use Rattle.site_store.proofs.RowLemmas.{rows_from-push}
use Rattle.site_store.proofs.reading.stored_from.Goals as goal

pub loop-row-preserved : goal.loop-row-preserved
loop-row-preserved c =
    let items : c.push.new.self.items ≡ c.loop-row.steps.items ++ c.in-Some.stored ∷ [] = search rules in
    let row = rw c.in-Some.is at c.in_ok-stored.ensures.row in
    let more = take_more c.args.rows.now c.loop-row.row-index c.row-item.result c.loop-row-test.true in
    let last = ap (λ n. step_row n c.in-Some.stored) (sym c.loop-row.invariant.0) ∙ sym row ∙ c.row-item.is in
    (search rules, rw items (rows_from-push c.args.first c.loop-row.steps.items c.in-Some.stored ∙ ap₂ (λ (xs : _) (x : Row). xs ++ x ∷ []) c.loop-row.invariant.1 last ∙ sym more))

pub returns-then-at-clause-there : goal.returns-then-at-clause-there
returns-then-at-clause-there c steps are fits =
    let loop = c.loop-row in
    absurd (omega (arith, next_below c.args.first loop.at loop.row-index loop.steps.items steps c.args.rows.now loop.invariant.0 loop.invariant.1 c.loop-row-test.true are fits, c.if-at.true))

pub returns-in_default-clause-there : goal.returns-in_default-clause-there
returns-in_default-clause-there c steps are fits =
    let loop = c.loop-row in
    let next = next_row c.args.first loop.at loop.row-index loop.steps.items steps c.args.rows.now c.row-item.result loop.invariant.0 loop.invariant.1 c.loop-row-test.true c.row-item.is are in
    rw c.in_default.is at (c.in_ok-stored.ensures.there next.0 next.1)
