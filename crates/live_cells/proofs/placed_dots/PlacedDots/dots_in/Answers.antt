use Rattle.std.proofs.Common.{◌≡◌, ◌-◌, ◌≤◌, drop, take, rules, of_calls, filter, subst, arith}
use Rattle.std.proofs.lemmas.Fn.{always_returns_same}
use Rattle.std.specs.Ordering.{is_lt}
use Rattle.dots.specs.DotSets.{Run, first_dot, in_run, last_dot, next_dot}
use Rattle.dots.specs.Orders.{dot_cmp}
use Rattle.live_cells.proofs.PlacedOrder.{partitioned}
use Rattle.live_cells.proofs.PlacedRuns.{parts_rise, run_between}
use Rattle.live_cells.proofs.placed_dots.PlacedDots.dots_in.Goals as goal

pub slice_bounds-result-count : goal.slice_bounds-result-count
slice_bounds-result-count c =
    let r : Run = record { site = c.run.inside.site; first = c.run.inside.first; last = c.run.inside.last } in
    parts_rise c.args.self.list.now r c.partition_point-start.result c.partition_point-end.result c.partition_point-start.ensures.bound c.run.invariant.ordered
    (c.partition_point-start.ensures.partitioned (λ p. is_lt (dot_cmp p.dot (first_dot r))) (always_returns_same _ _ _ (λ a r f k. search (rules, of_calls))) (partitioned (first_dot r) c.args.self.list.now c.args.self.rise))
    (c.partition_point-end.ensures.partitioned (λ p. is_lt (dot_cmp p.dot (next_dot (last_dot r)))) (always_returns_same _ _ _ (λ a r f k. search (rules, of_calls))) (partitioned (next_dot (last_dot r)) c.args.self.list.now c.args.self.rise))

pub slice_bounds-result-start : goal.slice_bounds-result-start
slice_bounds-result-start c =
    let rise : c.partition_point-start.result ≤ c.partition_point-end.result = slice_bounds-result-count c in
    omega arith

pub returns : goal.returns
returns c =
    let r : Run = record { site = c.run.inside.site; first = c.run.inside.first; last = c.run.inside.last } in
    subst (λ (x : Run). take (c.partition_point-end.result - c.partition_point-start.result) (drop c.partition_point-start.result c.args.self.list.now) ≡ filter (λ p. in_run p.dot x) c.args.self.list.now) c.run.view_is
    (run_between c.args.self.list.now r c.partition_point-start.result c.partition_point-end.result c.partition_point-start.ensures.bound c.partition_point-end.ensures.bound c.run.invariant.ordered
    (c.partition_point-start.ensures.partitioned (λ p. is_lt (dot_cmp p.dot (first_dot r))) (always_returns_same _ _ _ (λ a r f k. search (rules, of_calls))) (partitioned (first_dot r) c.args.self.list.now c.args.self.rise))
    (c.partition_point-end.ensures.partitioned (λ p. is_lt (dot_cmp p.dot (next_dot (last_dot r)))) (always_returns_same _ _ _ (λ a r f k. search (rules, of_calls))) (partitioned (next_dot (last_dot r)) c.args.self.list.now c.args.self.rise)))
