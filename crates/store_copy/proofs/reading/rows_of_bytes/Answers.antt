use Rattle.std.proofs.Common.{◌≡◌, Err, refl, rules}
use Rattle.sqlite.specs.Files.{file_state}
use Rattle.store_copy.specs.declared.copy_fault.CopyFault.TheVariants.{NoStore}
use Rattle.store_copy.proofs.CleanMemory.{always_clean}
use Rattle.store_copy.proofs.Recovered.{history_of, if_ok, lists_of, of_err, recovered, shows_store}
use Rattle.store_copy.proofs.reading.rows_of_bytes.Goals as goal

pub returns-clause-kept : goal.returns-clause-kept
returns-clause-kept c db holds =
    let it = c.in_ok-conn.ensures in
    if_ok c.read_rows-rows.result _ _ (λ rows all. history_of c.args.bytes.now (file_state c.in_ok-conn.conn) it.opened.0 it.opened.1 it.found db rows.first rows.steps.items holds all) (c.read_rows-rows.ensures.rows (always_clean _))

pub returns-clause-bare : goal.returns-clause-bare
returns-clause-bare c db holds =
    let it = c.in_ok-conn.ensures in
    if_ok c.read_rows-rows.result _ _ (λ rows all. lists_of c.args.bytes.now (file_state c.in_ok-conn.conn) it.opened.0 it.opened.1 it.found db rows.first rows.steps.items holds all) (c.read_rows-rows.ensures.rows (always_clean _))

pub returns-clause-found : goal.returns-clause-found
returns-clause-found c =
    let it = c.in_ok-conn.ensures in
    if_ok c.read_rows-rows.result _ _ (λ rows all. recovered c.args.bytes.now (file_state c.in_ok-conn.conn) it.opened.0 it.opened.1 it.found rows.first rows.steps.items all) (c.read_rows-rows.ensures.rows (always_clean _))

pub returns-clause-store : goal.returns-clause-store
returns-clause-store c db schema store holds long is =
    let it = c.in_ok-conn.ensures in
    of_err c.read_rows-rows.result _ _ is c.read_rows-rows.ensures.fault refl (shows_store c.args.bytes.now (file_state c.in_ok-conn.conn) it.opened.0 it.opened.1 it.found schema db holds store)

pub returns-in_err-conn-clause-store : goal.returns-in_err-conn-clause-store
returns-in_err-conn-clause-store c db schema store holds long is =
    let same : c.from_residual.result ≡ Err c.in_err-conn.field-0.0 = search rules in
    let fault : c.in_err-conn.field-0.0 ≡ NoStore = cc in
    c.in_err-conn.ensures.refused fault db holds.held
