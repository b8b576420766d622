use Rattle.std.proofs.Common.{◌≡◌, ◌++◌, [], List, length, rules, sym, subst}
use Rattle.sqlite.specs.Held.{state}
use Rattle.sqlite.specs.State.{HasCleanDisk}
use Rattle.stored_steps.specs.Stored.{Stored}
use Rattle.stored_desk.specs.Recorded.{IsLegalHistory}
use Rattle.step_database.specs.Standing.{AreRowsOf, StoreOrigin}
use Rattle.step_database.specs.Databases.{Stores}
use Rattle.step_database.proofs.Kept.{stores_keeps, stores_rowless}
use Rattle.step_database.proofs.StepRows.{no_items}
use Rattle.step_database.proofs.step_database.StepDatabaseStepStore.commit.Goals as goal

-- steps without a row are held by the same rows
pub returns-then-is_empty-clause-added : goal.returns-then-is_empty-clause-added
returns-then-is_empty-clause-added g c list more held kept are legal =
    let size : length c.args.group.items ≡ 0 = search rules in
    let none = no_items c.args.group.items size in
    let no_rows : AreRowsOf [] more = subst (λ (l : List Stored). AreRowsOf l more) none are in
    let all = λ (clean : HasCleanDisk (state g.S.Store c.args.self.now.conn)).
    stores_rowless (state g.S.Store c.args.self.now.conn) c.args.self.now.origin c.args.self.now.next list more (held clean) no_rows legal in
    (all, λ clean. stores_keeps (state g.S.Store c.args.self.now.conn) c.args.self.now.origin c.args.self.now.next (list ++ more) [] (all clean))

pub returns-then-is_empty-clause-kept : goal.returns-then-is_empty-clause-kept
returns-then-is_empty-clause-kept g c list more held kept are legal = λ clean. stores_keeps (state g.S.Store c.args.self.now.conn) c.args.self.now.origin c.args.self.now.next list more (held clean)

pub returns-clause-added : goal.returns-clause-added
returns-clause-added g c list more held kept are legal =
    let origin : StoreOrigin = record { begun = c.self.inside.begun.value; name = c.self.inside.name; starts = c.self.inside.starts } in
    let was = subst (λ v. HasCleanDisk (state g.S.Store v.conn) → Stores (state g.S.Store v.conn) v.origin v.next list) (sym c.self.view_is) held in
    let rows = subst (λ (l : List Stored). AreRowsOf l more) (sym c.as_slice-2.ensures.value) are in
    let all = λ (clean : HasCleanDisk (state g.S.Store c.append_rows-added.new.conn)).
    c.in_ok-self-inside.ensures.added clean origin list more (was (c.append_rows-added.ensures.clean clean)) rows (subst (λ v. IsLegalHistory v.origin.begun (list ++ more)) (sym c.self.view_is) legal) in
    (all, λ clean. stores_keeps (state g.S.Store c.append_rows-added.new.conn) origin c.in_ok-self-inside.field-0 (list ++ more) [] (all clean))
