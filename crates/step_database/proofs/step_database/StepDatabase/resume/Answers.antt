use Rattle.std.proofs.Common.{◌<◌, ◌+◌, ◌∙◌, [], ap, inr, length, subst, sym}
use Rattle.sqlite.specs.Held.{state}
use Rattle.sqlite.specs.State.{HasCleanDisk}
use Rattle.site_store.specs.declared.restoring.TheConstants.{LAST_POSITION}
use Rattle.site_store.specs.Kept.{HoldsAll}
use Rattle.site_store.specs.Steps.{Holds}
use Rattle.step_database.specs.Restored.{HoldsRestored}
use Rattle.step_database.proofs.Kept.{next_is_behind, resumed_stores, stores_keeps}
use Rattle.step_database.proofs.step_database.StepDatabase.resume.Goals as goal

pub begin-requires : goal.begin-requires
begin-requires g c = record { fits = subst (λ v. v.next < LAST_POSITION) (sym c.restored.view_is) c.requires.restored.fits }

pub returns-clause-adds : goal.returns-clause-adds
returns-clause-adds g c =
    let was = subst (λ v. HasCleanDisk (state g.S.Store v.conn) → HoldsRestored (state g.S.Store v.conn) v) (sym c.restored.view_is) c.requires.restored.holds in
    let clean_then = λ (clean : HasCleanDisk (state g.S.Store c.begin.new.conn)). c.begin.ensures.clean clean in record {
      rows = λ clean first rows holds some.
          let there = subst (λ v. Holds (state g.S.Store v.conn) first rows) (sym c.restored.view_is) holds in
          c.in_default.ensures.rows clean first rows there (next_is_behind (state g.S.Store c.restored.inside.conn) _ first rows (was (clean_then clean)) there some);
      kept = λ clean first kept rows all some.
          let there = subst (λ v. HoldsAll (state g.S.Store v.conn) first kept rows) (sym c.restored.view_is) all in
          c.in_default.ensures.spared clean first kept rows there
          (next_is_behind (state g.S.Store c.restored.inside.conn) _ (first + length kept) rows (was (clean_then clean)) (record { schema = inr there.schema; rows = there.all.list_are }) some);
      begins = λ clean keeps.
          let is = was (clean_then clean) in
          c.in_default.ensures.kept clean is.first is.rows is.holds is.next_is keeps;
      schema = λ clean bare.
          let is = was (clean_then clean) in
          c.in_default.ensures.schema clean is.holds.schema bare ∙ ap (λ v. (state g.S.Store v.conn).now.schema) c.restored.view_is;
      clean = λ clean. subst (λ v. HasCleanDisk (state g.S.Store v.conn)) c.restored.view_is (clean_then clean);
    }

pub returns-clause-holds : goal.returns-clause-holds
returns-clause-holds g c clean =
    let was = subst (λ v. HasCleanDisk (state g.S.Store v.conn) → HoldsRestored (state g.S.Store v.conn) v) (sym c.restored.view_is) c.requires.restored.holds in
    let is = was (c.begin.ensures.clean clean) in
    resumed_stores (state g.S.Store c.restored.inside.conn) (state g.S.Store c.begin.new.conn) _ c.saturating_add.result is c.saturating_add.ensures (c.in_default.ensures.rows clean is.first is.rows is.holds is.next_is)
    (c.in_default.ensures.leaves clean is.first is.rows is.holds is.next_is is.outside)

pub returns-clause-keeps : goal.returns-clause-keeps
returns-clause-keeps g c clean = stores_keeps (state g.S.Store c.begin.new.conn) _ _ [] [] (returns-clause-holds g c clean)
