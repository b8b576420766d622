use Rattle.std.proofs.Common.{◌≡◌, length, ap, arith, rules}
use Rattle.sqlite.specs.Held.{state}
use Rattle.site_store.proofs.RowLemmas.{lists_once}
use Rattle.site_store.proofs.restoring.listed_rows.Goals as goal

pub returns-clause-found : goal.returns-clause-found
returns-clause-found g c clean schema = record { schema = schema; rows = rw c.in-Some.is at (c.in-Ok.ensures.listed clean schema) }

pub returns-then-not-has_places-clause-there : goal.returns-then-not-has_places-clause-there
returns-then-not-has_places-clause-there g c clean first rows holds some fits of_rows =
    let listed = rw c.in-Some.is at (c.in-Ok.ensures.listed clean holds.schema) in
    let same = lists_once ((state g.S.Store c.args.conn.now).now.trees 0) first c.in-Some.listed.first rows c.in-Some.listed.steps.items holds.rows listed some in
    let size : c.len-len.result ≡ length c.in-Some.listed.steps.items = search rules in
    search rules
