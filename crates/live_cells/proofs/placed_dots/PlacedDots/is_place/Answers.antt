use Rattle.std.proofs.Common.{◌≡◌, ◌+◌, ◌-◌, true, subst, arith}
use Rattle.std.specs.List.{AllWithin}
use Rattle.std.specs.Ordering.{is_lt}
use Rattle.dots.specs.Orders.{dot_cmp}
use Rattle.live_cells.proofs.PlacedOrder.{partitioned, passed_upto}
use Rattle.live_cells.proofs.placed_dots.PlacedDots.is_place.Goals as goal

pub returns-clause-before : goal.returns-clause-before
returns-clause-before c h =
    let dots = c.args.self.list.now in
    let last = c.args.place - 1 in
    let same : last + 1 ≡ c.args.place = omega arith in
    subst (λ n. AllWithin (λ x. is_lt (dot_cmp x.dot c.args.dot) ≡ true) dots 0 n) same
    (passed_upto (λ x. is_lt (dot_cmp x.dot c.args.dot)) dots last (partitioned c.args.dot dots c.args.self.rise) (c.is_passed-2.ensures.within h) (c.is_passed-2.ensures.here h))
