use Rattle.std.proofs.Common.{◌≡◌, ◌∙◌, ◌+◌, length, false, IsTrue, rules, sym, true≢false}
use Rattle.sqlite.specs.Held.{state}
use Rattle.site_store.specs.Steps.{kept_schema}
use Rattle.site_store.proofs.GroupLemmas.{inside_then, steps_of_all}
use Rattle.site_store.proofs.KeepingLemmas.{bare_schema, both_ok, none_held, on_ok}
use Rattle.site_store.proofs.replacing.clear_steps.Goals as goal

pub returns-then-keeps_rows-clause-cleared : goal.returns-then-keeps_rows-clause-cleared
returns-then-keeps_rows-clause-cleared g c clean inside first list holds at =
    let passed : IsTrue c.keeps_rows.result = search rules in
    let has : (state g.S.Store c.args.conn.now).now.schema ≡ kept_schema = sym c.schema.ensures.value ∙ c.keeps_rows.ensures.0 passed in
    on_ok c.move_rows.result _ _ (λ it. (it.0, none_held (state g.S.Store c.move_rows.new.conn) at it.1 it.2)) (c.move_rows.ensures.moved clean inside has first list holds.rows)

pub returns-then-keeps_rows-clause-kept : goal.returns-then-keeps_rows-clause-kept
returns-then-keeps_rows-clause-kept g c clean inside first kept list holds =
    let steps = steps_of_all (state g.S.Store c.args.conn.now) first kept list holds in
    let moved = c.move_rows.ensures.moved clean inside holds.schema (first + length kept) list steps.rows in
    both_ok c.move_rows.result _ _ _ (λ one two. (one.1, two)) moved (c.move_rows.ensures.kept clean inside holds.schema first kept list holds.all)

pub returns-then-keeps_rows-clause-crash : goal.returns-then-keeps_rows-clause-crash
returns-then-keeps_rows-clause-crash g c clean inside first list holds db may =
    let passed : IsTrue c.keeps_rows.result = search rules in
    let has : (state g.S.Store c.args.conn.now).now.schema ≡ kept_schema = sym c.schema.ensures.value ∙ c.keeps_rows.ensures.0 passed in
    c.move_rows.ensures.crash clean inside has db may

pub returns-clause-cleared : goal.returns-clause-cleared
returns-clause-cleared g c clean inside first list holds at =
    let clean_dropped = c.make_steps.ensures.clean clean in
    let old = state g.S.Store c.args.conn.now in
    let missed : c.keeps_rows.result ≡ false = search rules in
    let bare = bare_schema old.now.schema holds.schema (λ kept. true≢false (sym (c.keeps_rows.ensures.1 (c.schema.ensures.value ∙ kept)) ∙ missed)) in
    let dropped = c.in_ok-drop_steps.ensures.dropped clean_dropped inside bare in
    let made = c.in_ok-make_steps.ensures.made clean dropped.0.mode dropped.1 at in
    (inside_then old (state g.S.Store c.drop_steps.new.conn) (state g.S.Store c.make_steps.new.conn) dropped.0 made.0, made.2)

pub returns-then-keeps_rows-clause-schema : goal.returns-then-keeps_rows-clause-schema
returns-then-keeps_rows-clause-schema g c clean inside first list holds =
    let passed : IsTrue c.keeps_rows.result = search rules in
    let has : (state g.S.Store c.args.conn.now).now.schema ≡ kept_schema = sym c.schema.ensures.value ∙ c.keeps_rows.ensures.0 passed in
    on_ok c.move_rows.result _ _ (λ it. it.1 ∙ sym has) (c.move_rows.ensures.moved clean inside has first list holds.rows)

pub returns-clause-schema : goal.returns-clause-schema
returns-clause-schema g c clean inside first list holds =
    let clean_dropped = c.make_steps.ensures.clean clean in
    let old = state g.S.Store c.args.conn.now in
    let missed : c.keeps_rows.result ≡ false = search rules in
    let bare = bare_schema old.now.schema holds.schema (λ kept. true≢false (sym (c.keeps_rows.ensures.1 (c.schema.ensures.value ∙ kept)) ∙ missed)) in
    let dropped = c.in_ok-drop_steps.ensures.dropped clean_dropped inside bare in
    (c.in_ok-make_steps.ensures.made clean dropped.0.mode dropped.1 first).1 ∙ sym bare
