use Rattle.std.proofs.Common.{Bool, ◌&&◌, ◌||◌, ◌+◌, take, not, sym, ap, subst, ◌∙◌}
use Rattle.std.specs.FinMap as map
use Rattle.dots.specs.Values.{Dot}
use Rattle.dots.specs.DotSets.{in_run, in_runs}
use Rattle.std.proofs.lemmas.List.{take_all}
use Rattle.member_orset.specs.Joining.{dead_in_run}
use Rattle.live_cells.proofs.Counts.{runs_more}
use Rattle.live_cells.proofs.RunCounts.{dead_in_runs, spread}
use Rattle.member_orset.proofs.Thinning.{thinned_twice}
use Rattle.member_orset.proofs.joining.drop_each.Goals as goal
use Rattle.live_cells.specs.LiveStates.{IsThinned}

pub loop-run-preserved : goal.loop-run-preserved
loop-run-preserved c =
    let runs = c.as_slice-runs.result.now in
    let i = c.loop-run.run-index in
    let run = c.run-item.result in
    let there = c.args.there.now.live in
    thinned_twice (dead_in_runs (take i runs) there) (dead_in_run run there) (dead_in_runs (take (i + 1) runs) there) c.args.cells.now c.loop-run.cells c.drop_dead_in.new.cells
    (λ q. ap (λ b. b && not (map.contains_key there q)) (runs_more runs i run q c.loop-run-test.true ∙ ap (λ r. in_runs (take i runs) q || in_run q r) (sym c.run-item.is)) ∙ spread (in_runs (take i runs) q) (in_run q run) (not (map.contains_key there q)))
    c.loop-run.invariant c.drop_dead_in.ensures

pub returns : goal.returns
returns c =
    let runs = c.as_slice-runs.result.now in
    let there = c.args.there.now.live in
    subst (λ (dead : Dot → Bool). IsThinned dead c.args.cells.now c.loop-run.cells)
    (λ i q. (ap (λ rs. in_runs rs q) (take_all c.loop-run.run-index runs c.loop-run-test.false) ∙ sym (c.as_slice-runs.ensures.value.same q)) i && not (map.contains_key there q))
    c.loop-run.invariant
