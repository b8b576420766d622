use Rattle.std.proofs.Common.{◌≡◌, [], rules, sym, subst}
use Rattle.sqlite.specs.Held.{state}
use Rattle.sqlite.specs.State.{HasCleanDisk}
use Rattle.site_journal.specs.Legal.{LeadAll}
use Rattle.step_database.specs.Standing.{StoreOrigin}
use Rattle.step_database.specs.Databases.{Stores}
use Rattle.step_database.proofs.Kept.{base_stands, stores_keeps}
use Rattle.step_database.proofs.step_database.StepDatabaseStepStore.replace_base.Goals as goal

pub returns-in_err-self-inside-clause-kept : goal.returns-in_err-self-inside-clause-kept
returns-in_err-self-inside-clause-kept g c list site held kept of lead clean =
    let origin : StoreOrigin = record { begun = c.self.inside.begun.value; name = c.self.inside.name; starts = c.self.inside.starts } in
    let was = subst (λ v. HasCleanDisk (state g.S.Store v.conn) → Stores (state g.S.Store v.conn) v.origin v.next list) (sym c.self.view_is) held in
    let led = subst (λ v. LeadAll v.origin.begun list site) (sym c.self.view_is) lead in
    let name : c.args.base.name ≡ c.self.inside.name = search rules in
    let starts : c.args.base.starts ≡ c.self.inside.starts = search rules in
    let it = was (c.put_base-put.ensures.clean clean) in
    let stand = base_stands (state g.S.Store c.self.inside.conn) origin c.self.inside.next list site c.args.base.row c.args.base.name c.args.base.starts it led of name starts in
    c.in_err-self-inside.ensures.kept clean origin list it stand

pub returns-clause-kept : goal.returns-clause-kept
returns-clause-kept g c list site held kept of lead clean =
    let origin : StoreOrigin = record { begun = c.self.inside.begun.value; name = c.self.inside.name; starts = c.self.inside.starts } in
    let was = subst (λ v. HasCleanDisk (state g.S.Store v.conn) → Stores (state g.S.Store v.conn) v.origin v.next list) (sym c.self.view_is) held in
    let led = subst (λ v. LeadAll v.origin.begun list site) (sym c.self.view_is) lead in
    let name : c.args.base.name ≡ c.self.inside.name = search rules in
    let starts : c.args.base.starts ≡ c.self.inside.starts = search rules in
    let it = was (c.put_base-put.ensures.clean clean) in
    let stand = base_stands (state g.S.Store c.self.inside.conn) origin c.self.inside.next list site c.args.base.row c.args.base.name c.args.base.starts it led of name starts in
    c.in_ok-self-inside.ensures.kept clean origin list it stand

pub returns-clause-replaced : goal.returns-clause-replaced
returns-clause-replaced g c list site held kept of lead =
    let origin : StoreOrigin = record { begun = c.self.inside.begun.value; name = c.self.inside.name; starts = c.self.inside.starts } in
    let was = subst (λ v. HasCleanDisk (state g.S.Store v.conn) → Stores (state g.S.Store v.conn) v.origin v.next list) (sym c.self.view_is) held in
    let led = subst (λ v. LeadAll v.origin.begun list site) (sym c.self.view_is) lead in
    let name : c.args.base.name ≡ c.self.inside.name = search rules in
    let starts : c.args.base.starts ≡ c.self.inside.starts = search rules in
    let all = λ (clean : HasCleanDisk (state g.S.Store c.put_base-put.new.conn)).
    let it = was (c.put_base-put.ensures.clean clean) in
    c.in_ok-self-inside.ensures.put clean origin list it
    (base_stands (state g.S.Store c.self.inside.conn) origin c.self.inside.next list site c.args.base.row c.args.base.name c.args.base.starts it led of name starts) in
    (all, λ clean. stores_keeps (state g.S.Store c.put_base-put.new.conn) origin c.in_ok-self-inside.field-0 list [] (all clean))
