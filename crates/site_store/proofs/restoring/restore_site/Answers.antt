use Rattle.std.proofs.Common.{◌≡◌, ℕ, ◌+◌, List, length, sym, ap, subst, ◌∙◌, IsTrue, rules}
use Rattle.sqlite.specs.Held.{state}
use Rattle.stored_steps.specs.Restoring.{IsRestoredSite}
use Rattle.stored_steps.specs.Stored.{Stored}
use Rattle.stored_steps.specs.RowsLead.{MakeSite}
use Rattle.stored_steps.specs.StoreFaults.{IsOutOfRoom}
use Rattle.site_store.proofs.InsideLemmas.{is_outside}
use Rattle.site_store.proofs.RestoredSites.{made_once, not_of_rows}
use Rattle.site_store.proofs.restoring.restore_site.Goals as goal

pub returns-in-Ok-clause-restored : goal.returns-in-Ok-clause-restored
returns-in-Ok-clause-restored g c clean schema =
    let is = rw c.in-Ok.is at c.restore-restored.ensures.restored in
    let size = c.len-rows.ensures ∙ sym c.as_slice-2.ensures.len ∙ ap length c.as_slice-2.ensures.value in record {
      first = c.in_ok-listed.listed.first;
      rows = c.in_ok-listed.listed.steps.items;
      holds = c.in_ok-listed.ensures.found clean schema;
      restored = subst (λ (l : List Stored). IsRestoredSite l c.in-Ok.site) c.as_slice-2.ensures.value is;
      next_is = ap (λ (n : ℕ). c.in_ok-listed.listed.first + n) size;
      counts = record { rows_are = size; bytes_are = rw c.as_slice.ensures.value at c.bytes_since_base-bytes.ensures };
    }

pub returns-in-Ok-clause-outside : goal.returns-in-Ok-clause-outside
returns-in-Ok-clause-outside g c =
    let passed : IsTrue c.is_autocommit.result = search rules in
    is_outside c.is_autocommit.result (state g.S.Store c.args.conn.now).in_transaction passed c.is_autocommit.ensures.value

pub returns-in-Err-clause-makes : goal.returns-in-Err-clause-makes
returns-in-Err-clause-makes g c clean first rows holds makes fits few of_rows =
    let found = c.in_ok-listed.ensures.found clean holds.schema in
    let names = c.args.list.now in
    let same = made_once c.args.site names ((state g.S.Store c.args.conn.now).now.trees 0) first c.in_ok-listed.listed.first rows c.in_ok-listed.listed.steps.items makes holds.rows found.rows in
    let whole : rows ≡ c.as_slice-2.result.now = same ∙ sym c.as_slice-2.ensures.value in
    not_of_rows c.in-Err.fault (length rows) c.site_fault.result c.site_fault.ensures
    (subst (λ (l : List Stored). IsOutOfRoom (length l) c.in-Err.fault) (sym whole) (c.in-Err.ensures.makes (subst (λ (l : List Stored). MakeSite c.args.site names l) whole makes))) few of_rows
