use Rattle.std.proofs.Common.{inl, inr}
use Rattle.sqlite.specs.Held.{state}
use Rattle.site_store.proofs.InsideLemmas.{not_outside}
use Rattle.site_store.proofs.MoveLemmas.{delete_outside}
use Rattle.site_store.proofs.KeepingLemmas.{deleted_inside}
use Rattle.site_store.proofs.keeping.delete_rows.Goals as goal

pub returns-clause-deleted : goal.returns-clause-deleted
returns-clause-deleted g c clean inside has first list lists =
    deleted_inside (state g.S.Store c.args.conn.now) (state g.S.Store c.execute.new.self) first list c.execute.result inside has lists (c.execute.ensures.runs clean)

pub returns-clause-crash : goal.returns-clause-crash
returns-clause-crash g c clean inside has db may = elim (c.execute.ensures.survives.crash clean db may) [
  | inl was ↦ was
  | inr commits ↦ absurd (not_outside (state g.S.Store c.args.conn.now) inside (delete_outside (state g.S.Store c.args.conn.now) db has commits))
]
