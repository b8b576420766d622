use Rattle.std.proofs.Common.{◌+◌, length, not, take, ap, arith}
use Rattle.std.specs.List.{count_by}
use Rattle.std.specs.FinSet as set
use Rattle.std.proofs.lemmas.List.{take_all}
use Rattle.std.proofs.lemmas.List.Sums.{count_by-le-length}
use Rattle.dots.specs.DotSets.{in_runs}
use Rattle.live_cells.specs.declared.placed.Placed.{Placed}
use Rattle.live_cells.proofs.Counts.{count_not, count_same}
use Rattle.live_cells.proofs.RunCounts.{one_more, none_so_far}
use Rattle.live_cells.proofs.placed_dots.PlacedDots.count_outside.Goals as goal

pub loop-run-init : goal.loop-run-init
loop-run-init c = let none = none_so_far (λ (p : Placed). p.dot) c.as_slice-runs.result.now c.args.self.list.now in omega arith

pub overflow_sub-left : goal.overflow_sub-left
overflow_sub-left c =
    let runs = c.as_slice-runs.result.now in
    let before = c.loop-run.invariant in
    let more = one_more (λ (p : Placed). p.dot) runs c.loop-run.run-index c.run-item.result c.args.self.list.now c.as_slice-runs.ensures.value.apart c.loop-run-test.true c.run-item.is in
    let value = ap length c.dots_in.ensures in
    let few = count_by-le-length (λ (p : Placed). in_runs (take (c.loop-run.run-index + 1) runs) p.dot) c.args.self.list.now in
    omega arith

pub loop-run-preserved : goal.loop-run-preserved
loop-run-preserved c =
    let runs = c.as_slice-runs.result.now in
    let before = c.loop-run.invariant in
    let more = one_more (λ (p : Placed). p.dot) runs c.loop-run.run-index c.run-item.result c.args.self.list.now c.as_slice-runs.ensures.value.apart c.loop-run-test.true c.run-item.is in
    let value = ap length c.dots_in.ensures in
    let few = count_by-le-length (λ (p : Placed). in_runs (take (c.loop-run.run-index + 1) runs) p.dot) c.args.self.list.now in
    omega arith

pub returns : goal.returns
returns c =
    let runs = c.as_slice-runs.result.now in
    let all = c.loop-run.invariant in
    let same = ap (λ rs. count_by (λ (p : Placed). in_runs rs p.dot) c.args.self.list.now) (take_all c.loop-run.run-index runs c.loop-run-test.false) in
    let both = count_not (λ (p : Placed). in_runs runs p.dot) c.args.self.list.now in
    let outside = count_same (λ (p : Placed). not (set.contains c.args.known.now.dots p.dot)) (λ p. not (in_runs runs p.dot)) (λ p. ap not (c.as_slice-runs.ensures.value.same p.dot)) c.args.self.list.now in
    omega arith
