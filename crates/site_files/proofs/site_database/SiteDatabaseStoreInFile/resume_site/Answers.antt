use Rattle.std.proofs.Common.{◌≡◌, subst, sym}
use Rattle.sqlite.specs.Files.{file_state}
use Rattle.sqlite.specs.State.{HasCleanDisk}
use Rattle.site_store.specs.Steps.{kept_schema}
use Rattle.step_database.specs.Restored.{AddsStart}
use Rattle.site_files.specs.declared.site_database.SiteDatabase.{SiteDatabase}
use Rattle.site_files.proofs.site_database.SiteDatabaseStoreInFile.resume_site.Goals as goal

pub returns-clause-kept : goal.returns-clause-kept
returns-clause-kept c keeps = subst (λ (store : SiteDatabase). HasCleanDisk (file_state store.rows.conn) → (file_state store.rows.conn).now.schema ≡ kept_schema) (sym c.site_file.ensures.store) (λ clean. c.in_ok-rows.ensures.adds.begins clean keeps)

pub returns-clause-adds : goal.returns-clause-adds
returns-clause-adds c = subst (λ (store : SiteDatabase). AddsStart c.args.keeps (file_state c.args.restored.conn) (file_state store.rows.conn)) (sym c.site_file.ensures.store) c.in_ok-rows.ensures.adds
