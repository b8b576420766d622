use Rattle.std.proofs.Common.{sym, ◌∙◌}
use Rattle.causal_context.specs.RunLists.{is_below}
use Rattle.causal_context.proofs.Places.{partitioned}
use Rattle.member_orset.proofs.site_walk.SiteWalk.run_at.Goals as goal
use Rattle.member_orset.proofs.RunPieces.{runs_ahead}
use Rattle.live_cells.proofs.PlacedOrder.{passed_all}

pub loop-passed-init : goal.loop-passed-init
loop-passed-init c =
    let walk = c.args.self.now in
    record {
      within = walk.run_within;
      before = runs_ahead walk.from c.args.dot.site c.args.dot.count walk.runs.list.now walk.run c.requires.0 c.requires.1 walk.run_before;
    }

pub returns-then-not-ends_before-clause-after : goal.returns-then-not-ends_before-clause-after
returns-then-not-ends_before-clause-after c =
    let runs = c.args.self.now.runs in
    passed_all (is_below c.args.dot) runs.list.now c.loop-passed.passed c.index-runs-passed.result (partitioned c.args.dot runs.list.now runs.apart) c.loop-passed-test.true c.index-runs-passed.is
    (sym c.ends_before.ensures ∙ c.if-not-ends_before.true)
