use Rattle.std.proofs.Common.{inl, inr}
use Rattle.sqlite.specs.Held.{state}
use Rattle.site_store.proofs.StepLemmas.{create_outside}
use Rattle.site_store.proofs.InsideLemmas.{made_inside, not_outside}
use Rattle.site_store.proofs.tables.make_steps.Goals as goal

pub returns-clause-made : goal.returns-clause-made
returns-clause-made g c clean inside has at = made_inside (state g.S.Store c.args.conn.now) (state g.S.Store c.execute.new.self) at c.execute.result inside has (c.execute.ensures.runs clean)

pub returns-clause-crash : goal.returns-clause-crash
returns-clause-crash g c clean inside has db may = elim (c.execute.ensures.survives.crash clean db may) [
  | inl was ↦ was
  | inr commits ↦ absurd (not_outside (state g.S.Store c.args.conn.now) inside (create_outside (state g.S.Store c.args.conn.now) db has commits))
]
