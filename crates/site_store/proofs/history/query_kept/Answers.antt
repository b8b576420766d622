use Rattle.std.proofs.Common.{◌≡◌, refl, rules}
use Rattle.sqlite.specs.Held.{state}
use Rattle.sqlite.specs.Schema.{Schema}
use Rattle.site_store.specs.Steps.{kept_schema}
use Rattle.site_store.proofs.MoveLemmas.{commits_no_kept, finds_kept, finds_kept_same, kept_answer}
use Rattle.site_store.proofs.OrderLemmas.{answer_in_order}
use Rattle.site_store.proofs.StepLemmas.{only_reads}
use Rattle.site_store.proofs.history.query_kept.Goals as goal

abbrev KeepsRows : Schema → Type 0
KeepsRows schema = schema ≡ kept_schema

pub returns-clause-listed : goal.returns-clause-listed
returns-clause-listed g c clean has = finds_kept (state g.S.Store c.args.conn.now) (state g.S.Store c.query_all.new.self) c.in_ok-rows.rows.items has (c.in_ok-rows.ensures.ok clean)

pub returns-clause-reads : goal.returns-clause-reads
returns-clause-reads g c =
    let old = state g.S.Store c.args.conn.now in
    let new = state g.S.Store c.query_all.new.self in
    only_reads KeepsRows old new _ _ c.query_all.ensures.survives (λ has db. commits_no_kept old db has) (λ clean has. finds_kept_same old new c.in_ok-rows.rows.items has (c.in_ok-rows.ensures.ok clean))

pub returns-in_err-rows-clause-reads : goal.returns-in_err-rows-clause-reads
returns-in_err-rows-clause-reads g c =
    let old = state g.S.Store c.args.conn.now in
    only_reads KeepsRows old (state g.S.Store c.query_all.new.self) _ _ c.query_all.ensures.survives (λ has db. commits_no_kept old db has) (λ clean has. search rules)

pub returns-clause-in_order : goal.returns-clause-in_order
returns-clause-in_order g c clean has first kept lists =
    let old = state g.S.Store c.args.conn.now in
    let rows = c.in_ok-rows.rows.items in
    answer_in_order 1 old.now.trees rows refl (kept_answer old (state g.S.Store c.query_all.new.self) rows has (c.in_ok-rows.ensures.ok clean)) first kept lists
