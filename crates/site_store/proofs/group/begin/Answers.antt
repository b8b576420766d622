use Rattle.std.proofs.Common.{inl, inr}
use Rattle.sqlite.specs.Held.{state}
use Rattle.site_store.proofs.StepLemmas.{begin_commits}
use Rattle.site_store.proofs.GroupLemmas.{is_begun}
use Rattle.site_store.proofs.group.begin.Goals as goal

pub returns-clause-begun : goal.returns-clause-begun
returns-clause-begun g c clean = is_begun (state g.S.Store c.args.conn.now) (state g.S.Store c.execute.new.self) c.execute.result (c.execute.ensures.runs clean)

pub returns-clause-crash : goal.returns-clause-crash
returns-clause-crash g c clean db may = elim (c.execute.ensures.survives.crash clean db may) [
  | inl was ↦ was
  | inr commits ↦ absurd (begin_commits (state g.S.Store c.args.conn.now) db commits)
]
