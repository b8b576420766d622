use Rattle.std.proofs.Common.{inl, inr}
use Rattle.sqlite.specs.Held.{state}
use Rattle.site_store.proofs.StepLemmas.{commit_commits}
use Rattle.site_store.proofs.GroupLemmas.{is_committed}
use Rattle.site_store.proofs.group.commit.Goals as goal

pub returns-clause-done : goal.returns-clause-done
returns-clause-done g c clean =
    is_committed (state g.S.Store c.args.conn.now) (state g.S.Store c.execute.new.self) c.execute.result (c.execute.ensures.runs clean) (g.met.S.Store.settled c.execute.new.self.store)

pub returns-clause-crash : goal.returns-clause-crash
returns-clause-crash g c clean db may = elim (c.execute.ensures.survives.crash clean db may) [
  | inl was ↦ inl was
  | inr commits ↦ inr (commit_commits (state g.S.Store c.args.conn.now) db commits)
]
