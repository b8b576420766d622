use Rattle.std.proofs.Common.{rules, subst, sym, ◌∙◌, IsTrue}
use Rattle.sqlite.specs.Held.{state}
use Rattle.site_store.specs.Steps.{IsStoreSchema}
use Rattle.step_database.specs.Restored.{IsOnlyRead}
use Rattle.step_database.proofs.Kept.{restored_same}
use Rattle.step_database.proofs.restoring.RestoredDatabase.restore.Goals as goal

pub restored_from-requires : goal.restored_from-requires
restored_from-requires g c =
    let passed : IsTrue c.is_store_schema.result = search rules in
    let schema : IsStoreSchema (state g.S.Store c.args.conn).now.schema = subst IsStoreSchema c.schema.ensures.value (c.is_store_schema.ensures.0 passed) in record {
      fits = c.in-Ok.ensures.fits;
      outside = λ clean. (c.in-Ok.ensures.reads.same clean schema).0.mode ∙ c.in-Ok.ensures.outside;
      restored = λ clean. restored_same _ _ c.in-Ok.restored (c.in-Ok.ensures.reads.same clean schema).0.now_is (c.in-Ok.ensures.restored clean schema);
    }

pub returns-in-Ok-restored_from-clause-reads : goal.returns-in-Ok-restored_from-clause-reads
returns-in-Ok-restored_from-clause-reads g c =
    let passed : IsTrue c.is_store_schema.result = search rules in
    let schema : IsStoreSchema (state g.S.Store c.args.conn).now.schema = subst IsStoreSchema c.schema.ensures.value (c.is_store_schema.ensures.0 passed) in
    let reads = c.in-Ok.ensures.reads in
    subst (λ h. IsOnlyRead (state g.S.Store c.args.conn) (state g.S.Store h)) (sym c.in-Ok-restored_from.ensures.conn)
    (record { same = λ clean. reads.same clean schema; crash = λ clean. reads.crash clean schema; clean = reads.clean })
