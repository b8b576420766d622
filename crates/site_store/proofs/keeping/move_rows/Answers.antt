use Rattle.std.proofs.Common.{◌+◌, ◌++◌, List, length, sym, subst}
use Rattle.sqlite.specs.Held.{state}
use Rattle.sqlite.specs.Order.{Row}
use Rattle.site_store.specs.Steps.{Lists}
use Rattle.site_store.proofs.GroupLemmas.{inside_then}
use Rattle.site_store.proofs.keeping.move_rows.Goals as goal

pub returns-clause-moved : goal.returns-clause-moved
returns-clause-moved g c clean inside has first list lists =
    let copied = c.in_ok-copy_rows.ensures.copied (c.delete_rows.ensures.clean clean) inside has in
    let there = subst (λ (rows : List Row). Lists rows first list) (sym copied.2) lists in
    let deleted = c.in_ok-delete_rows.ensures.deleted clean copied.0.mode copied.1 first list there in
    (inside_then (state g.S.Store c.args.conn.now) (state g.S.Store c.copy_rows.new.conn) (state g.S.Store c.delete_rows.new.conn) copied.0 deleted.0, deleted.1, deleted.2)

pub returns-clause-kept : goal.returns-clause-kept
returns-clause-kept g c clean inside has first kept list all =
    let clean_copied = c.delete_rows.ensures.clean clean in
    let copied = c.in_ok-copy_rows.ensures.copied clean_copied inside has in
    let there = subst (λ (rows : List Row). Lists rows (first + length kept) list) (sym copied.2) all.list_are in
    let deleted = c.in_ok-delete_rows.ensures.deleted clean copied.0.mode copied.1 (first + length kept) list there in
    subst (λ (rows : List Row). Lists rows first (kept ++ list)) (sym deleted.3) (c.in_ok-copy_rows.ensures.kept clean_copied has first kept list all)

pub returns-clause-crash : goal.returns-clause-crash
returns-clause-crash g c clean inside has db may =
    let clean_copied = c.delete_rows.ensures.clean clean in
    let copied = c.in_ok-copy_rows.ensures.copied clean_copied inside has in
    c.copy_rows.ensures.crash clean_copied inside has db (c.delete_rows.ensures.crash clean copied.0.mode copied.1 db may)

pub returns-in_err-delete_rows-clause-crash : goal.returns-in_err-delete_rows-clause-crash
returns-in_err-delete_rows-clause-crash g c clean inside has db may =
    let clean_copied = c.delete_rows.ensures.clean clean in
    let copied = c.in_ok-copy_rows.ensures.copied clean_copied inside has in
    c.copy_rows.ensures.crash clean_copied inside has db (c.delete_rows.ensures.crash clean copied.0.mode copied.1 db may)
