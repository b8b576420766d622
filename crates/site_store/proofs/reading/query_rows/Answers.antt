use Rattle.std.proofs.Common.{refl, rules}
use Rattle.sqlite.specs.Held.{state}
use Rattle.site_store.specs.Steps.{IsStoreSchema}
use Rattle.site_store.proofs.OrderLemmas.{answer_in_order}
use Rattle.site_store.proofs.StepLemmas.{commits_no_read, finds, finds_same, only_reads, shown_answer}
use Rattle.site_store.proofs.reading.query_rows.Goals as goal

pub returns-clause-listed : goal.returns-clause-listed
returns-clause-listed g c clean has = finds (state g.S.Store c.args.conn.now) (state g.S.Store c.query_all.new.self) c.in_ok-rows.rows.items has (c.in_ok-rows.ensures.ok clean)

pub returns-clause-reads : goal.returns-clause-reads
returns-clause-reads g c =
    let old = state g.S.Store c.args.conn.now in
    let new = state g.S.Store c.query_all.new.self in
    only_reads IsStoreSchema old new _ _ c.query_all.ensures.survives (λ has db. commits_no_read old db has) (λ clean has. finds_same old new c.in_ok-rows.rows.items has (c.in_ok-rows.ensures.ok clean))

pub returns-in_err-rows-clause-reads : goal.returns-in_err-rows-clause-reads
returns-in_err-rows-clause-reads g c =
    let old = state g.S.Store c.args.conn.now in
    only_reads IsStoreSchema old (state g.S.Store c.query_all.new.self) _ _ c.query_all.ensures.survives (λ has db. commits_no_read old db has) (λ clean has. search rules)

pub returns-clause-in_order : goal.returns-clause-in_order
returns-clause-in_order g c clean has first steps lists =
    let old = state g.S.Store c.args.conn.now in
    let rows = c.in_ok-rows.rows.items in
    answer_in_order 0 old.now.trees rows refl (shown_answer old (state g.S.Store c.query_all.new.self) rows has (c.in_ok-rows.ensures.ok clean)) first steps lists
