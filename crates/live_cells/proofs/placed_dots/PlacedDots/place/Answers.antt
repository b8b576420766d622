use Rattle.std.proofs.Common.{rules, of_calls}
use Rattle.std.proofs.lemmas.Fn.{always_returns_same}
use Rattle.std.specs.Ordering.{is_lt}
use Rattle.dots.specs.Orders.{dot_cmp}
use Rattle.live_cells.proofs.PlacedOrder.{partitioned}
use Rattle.live_cells.proofs.placed_dots.PlacedDots.place.Goals as goal

pub returns-clause-before : goal.returns-clause-before
returns-clause-before c =
    (c.partition_point.ensures.partitioned (λ x. is_lt (dot_cmp x.dot c.args.dot)) (always_returns_same _ _ _ (λ a r f k. search (rules, of_calls))) (partitioned c.args.dot c.args.self.list.now c.args.self.rise)).0

pub returns-clause-after : goal.returns-clause-after
returns-clause-after c =
    (c.partition_point.ensures.partitioned (λ x. is_lt (dot_cmp x.dot c.args.dot)) (always_returns_same _ _ _ (λ a r f k. search (rules, of_calls))) (partitioned c.args.dot c.args.self.list.now c.args.self.rise)).1
