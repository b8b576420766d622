use Rattle.std.proofs.Common.{inl, inr}
use Rattle.sqlite.specs.Held.{state}
use Rattle.site_store.proofs.InsideLemmas.{not_outside}
use Rattle.site_store.proofs.MoveLemmas.{copy_outside}
use Rattle.site_store.proofs.KeepingLemmas.{copied_inside, copied_kept}
use Rattle.site_store.proofs.keeping.copy_rows.Goals as goal

pub returns-clause-copied : goal.returns-clause-copied
returns-clause-copied g c clean inside has = copied_inside (state g.S.Store c.args.conn.now) (state g.S.Store c.execute.new.self) c.execute.result inside has (c.execute.ensures.runs clean)

pub returns-clause-kept : goal.returns-clause-kept
returns-clause-kept g c clean has first kept list all = copied_kept (state g.S.Store c.args.conn.now) (state g.S.Store c.execute.new.self) first kept list c.execute.result has all (c.execute.ensures.runs clean)

pub returns-clause-crash : goal.returns-clause-crash
returns-clause-crash g c clean inside has db may = elim (c.execute.ensures.survives.crash clean db may) [
  | inl was ↦ was
  | inr commits ↦ absurd (not_outside (state g.S.Store c.args.conn.now) inside (copy_outside (state g.S.Store c.args.conn.now) db has commits))
]
