use Rattle.std.proofs.Common.{inl, inr}
use Rattle.sqlite.specs.Held.{state}
use Rattle.site_store.proofs.StepLemmas.{drop_outside}
use Rattle.site_store.proofs.InsideLemmas.{dropped_inside, not_outside}
use Rattle.site_store.proofs.tables.drop_steps.Goals as goal

pub returns-clause-dropped : goal.returns-clause-dropped
returns-clause-dropped g c clean inside has = dropped_inside (state g.S.Store c.args.conn.now) (state g.S.Store c.execute.new.self) c.execute.result inside has (c.execute.ensures.runs clean)

pub returns-clause-crash : goal.returns-clause-crash
returns-clause-crash g c clean inside has db may = elim (c.execute.ensures.survives.crash clean db may) [
  | inl was ↦ was
  | inr commits ↦ absurd (not_outside (state g.S.Store c.args.conn.now) inside (drop_outside (state g.S.Store c.args.conn.now) db has commits))
]
