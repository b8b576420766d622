use Rattle.std.proofs.Common.{inl, inr}
use Rattle.sqlite.specs.Held.{state}
use Rattle.site_store.proofs.MoveLemmas.{commits_keep}
use Rattle.site_store.proofs.KeepingLemmas.{kept_idle, kept_made}
use Rattle.site_store.proofs.keeping.make_kept.Goals as goal

pub returns-clause-made : goal.returns-clause-made
returns-clause-made g c clean has = kept_made (state g.S.Store c.args.conn.now) (state g.S.Store c.execute.new.self) c.execute.result has (c.execute.ensures.runs clean)

pub returns-clause-idle : goal.returns-clause-idle
returns-clause-idle g c clean has idle = kept_idle (state g.S.Store c.args.conn.now) (state g.S.Store c.execute.new.self) c.execute.result has idle (c.execute.ensures.runs clean)

pub returns-clause-crash : goal.returns-clause-crash
returns-clause-crash g c clean has db may = elim (c.execute.ensures.survives.crash clean db may) [
  | inl was ↦ inl was
  | inr commits ↦ inr (commits_keep (state g.S.Store c.args.conn.now) db has commits)
]
