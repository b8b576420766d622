use Rattle.std.proofs.Common.{◌+◌, ◌&&◌, take, not, ap, ◌∙◌, arith}
use Rattle.std.specs.List.{count_by}
use Rattle.std.specs.FinMap as map
use Rattle.std.proofs.lemmas.List.{take_all}
use Rattle.std.proofs.lemmas.List.Sums.{count_by-le-length}
use Rattle.live_cells.specs.declared.placed.Placed.{Placed}
use Rattle.live_cells.proofs.Counts.{count_not, count_same}
use Rattle.live_cells.proofs.RunCounts.{count_more, count_none, dead_in_runs}
use Rattle.live_cells.specs.LiveStates.{dead_there}
use Rattle.member_orset.proofs.joining.count_kept.Goals as goal

pub loop-run-init : goal.loop-run-init
loop-run-init c =
    let none = count_none (λ (p : Placed). p.dot) (λ (p : Placed). not (map.contains_key c.args.there.now.live p.dot)) c.as_slice-runs.result.now c.args.dots.list.now in
    record { live = c.cursor-live.ensures; counted = omega arith }

pub overflow_sub-left : goal.overflow_sub-left
overflow_sub-left c =
    let before = c.loop-run.invariant.counted in
    let more = count_more (λ (p : Placed). p.dot) (λ (p : Placed). not (map.contains_key c.args.there.now.live p.dot)) c.as_slice-runs.result.now c.loop-run.run-index c.run-item.result c.args.dots.list.now c.as_slice-runs.ensures.value.apart c.loop-run-test.true c.run-item.is in
    let value =
    c.count_missing-left.ensures.value ∙ ap (λ live. count_by (λ (p : Placed). not (map.contains_key live p.dot)) c.dots_in.result.now) c.loop-run.invariant.live ∙ ap (count_by (λ (p : Placed). not (map.contains_key c.args.there.now.live p.dot))) c.dots_in.ensures in
    let few = count_by-le-length (λ (p : Placed). dead_in_runs (take (c.loop-run.run-index + 1) c.as_slice-runs.result.now) c.args.there.now.live p.dot) c.args.dots.list.now in
    omega arith

pub loop-run-preserved : goal.loop-run-preserved
loop-run-preserved c =
    let before = c.loop-run.invariant.counted in
    let more = count_more (λ (p : Placed). p.dot) (λ (p : Placed). not (map.contains_key c.args.there.now.live p.dot)) c.as_slice-runs.result.now c.loop-run.run-index c.run-item.result c.args.dots.list.now c.as_slice-runs.ensures.value.apart c.loop-run-test.true c.run-item.is in
    let value =
    c.count_missing-left.ensures.value ∙ ap (λ live. count_by (λ (p : Placed). not (map.contains_key live p.dot)) c.dots_in.result.now) c.loop-run.invariant.live ∙ ap (count_by (λ (p : Placed). not (map.contains_key c.args.there.now.live p.dot))) c.dots_in.ensures in
    let few = count_by-le-length (λ (p : Placed). dead_in_runs (take (c.loop-run.run-index + 1) c.as_slice-runs.result.now) c.args.there.now.live p.dot) c.args.dots.list.now in
    record { live = c.count_missing-left.ensures.same ∙ c.loop-run.invariant.live; counted = omega arith }

pub returns : goal.returns
returns c =
    let all = c.loop-run.invariant.counted in
    let same = ap (λ rs. count_by (λ (p : Placed). dead_in_runs rs c.args.there.now.live p.dot) c.args.dots.list.now) (take_all c.loop-run.run-index c.as_slice-runs.result.now c.loop-run-test.false) in
    let both = count_not (λ (p : Placed). dead_in_runs c.as_slice-runs.result.now c.args.there.now.live p.dot) c.args.dots.list.now in
    let kept =
    count_same (λ (p : Placed). not (dead_there c.args.known_there.now.dots c.args.there.now.live p.dot)) (λ p. not (dead_in_runs c.as_slice-runs.result.now c.args.there.now.live p.dot))
    (λ p. ap (λ b. not (b && not (map.contains_key c.args.there.now.live p.dot))) (c.as_slice-runs.ensures.value.same p.dot)) c.args.dots.list.now in
    omega arith
