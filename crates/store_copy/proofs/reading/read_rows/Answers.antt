use Rattle.std.proofs.Common.{IsTrue, rules, subst}
use Rattle.sqlite.specs.Held.{state}
use Rattle.site_store.specs.Steps.{IsStoreSchema}
use Rattle.store_copy.proofs.Recovered.{all_rows}
use Rattle.store_copy.proofs.reading.read_rows.Goals as goal

pub returns-clause-rows : goal.returns-clause-rows
returns-clause-rows g c clean =
    let passed : IsTrue c.is_store_schema.result = search rules in
    let shown = (state g.S.Store c.args.conn.now).now in
    all_rows c.read_store.result (λ it. it.first) (λ it. it.steps.items) shown.schema shown.trees (subst IsStoreSchema c.schema.ensures.value (c.is_store_schema.ensures.0 passed))
    (c.read_store.ensures.kept clean) (c.read_store.ensures.bare clean)
