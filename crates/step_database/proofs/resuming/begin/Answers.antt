use Rattle.std.proofs.Common.{◌+◌, ◌++◌, ◌∷◌, [], ⊎_elim, length, inr, sym, subst, ap, ◌∙◌}
use Rattle.std.proofs.lemmas.Result.{on_ok_weaker}
use Rattle.sqlite.specs.Held.{state}
use Rattle.stored_steps.specs.StartRows.{start_row}
use Rattle.site_store.specs.Kept.{HoldsAll}
use Rattle.step_database.proofs.Kept.{all_spared}
use Rattle.step_database.proofs.resuming.begin.Goals as goal

pub returns-clause-rows : goal.returns-clause-rows
returns-clause-rows g c clean first rows holds place =
    c.keep_rows.ensures.steps clean first _ (c.in_ok-add_start.ensures.added (c.keep_rows.ensures.clean clean) first rows holds place)

pub returns-clause-leaves : goal.returns-clause-leaves
returns-clause-leaves g c clean first rows holds place outside =
    let read = c.keep_rows.ensures.clean clean in
    let there = c.in_ok-add_start.ensures.added read first rows holds place in
    on_ok_weaker c.keep_rows.result (λ _. c.keep_rows.ensures.leaves clean first _ there (c.in_ok-add_start.ensures.durable read first rows holds place outside)) (c.keep_rows.ensures.steps clean first _ there)

pub returns-clause-kept : goal.returns-clause-kept
returns-clause-kept g c clean first rows holds place keeps =
    let there = c.in_ok-add_start.ensures.added (c.keep_rows.ensures.clean clean) first rows holds place in
    ⊎_elim (λ bare. on_ok_weaker c.keep_rows.result (λ all. all.schema) (c.keep_rows.ensures.made clean first _ there bare))
    (λ has. on_ok_weaker c.keep_rows.result (λ _. ap (λ (h : _). (state g.S.Store h).now.schema) (c.keep_rows.ensures.keeps has).1 ∙ has) (c.keep_rows.ensures.steps clean first _ there)) there.schema

pub returns-clause-spared : goal.returns-clause-spared
returns-clause-spared g c clean first kept rows all place =
    let read = c.keep_rows.ensures.clean clean in
    let steps = c.in_ok-add_start.ensures.added read (first + length kept) rows (record { schema = inr all.schema; rows = all.all.list_are }) place in
    let there = all_spared (state g.S.Store c.args.conn.now) (state g.S.Store c.add_start.new.conn) first kept rows _ all steps (c.in_ok-add_start.ensures.spared read (inr all.schema)) in
    on_ok_weaker c.keep_rows.result (λ _. subst (λ (h : _). HoldsAll (state g.S.Store h) first kept (rows ++ start_row ∷ [])) (sym (c.keep_rows.ensures.keeps there.schema).1) there)
    (c.keep_rows.ensures.steps clean (first + length kept) _ steps)

pub returns-then-not-keeps-clause-spared : goal.returns-then-not-keeps-clause-spared
returns-then-not-keeps-clause-spared g c clean first kept rows all place =
    let steps = c.in_ok-add_start.ensures.added clean (first + length kept) rows (record { schema = inr all.schema; rows = all.all.list_are }) place in
    all_spared (state g.S.Store c.args.conn.now) (state g.S.Store c.add_start.new.conn) first kept rows _ all steps (c.in_ok-add_start.ensures.spared clean (inr all.schema))
