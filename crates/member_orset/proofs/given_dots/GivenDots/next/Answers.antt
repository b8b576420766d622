use Rattle.std.proofs.Common.{rules, of_calls, arith}
use Rattle.std.proofs.lemmas.Fn.{always_returns_same}
use Rattle.std.specs.Ordering.{is_lt}
use Rattle.dots.specs.Orders.{dot_cmp}
use Rattle.member_orset.proofs.GivenDots.{next_found, parted_by_dot}
use Rattle.member_orset.proofs.given_dots.GivenDots.next.Goals as goal

pub returns : goal.returns
returns c =
    let list = c.args.self.list.now in
    let from = c.args.from in
    let rise = c.args.self.order c.if-not-self.false in
    let parted = c.partition_point-place.ensures.partitioned (λ d. is_lt (dot_cmp d from)) (always_returns_same _ _ _ (λ a r f k. search (rules, of_calls))) (parted_by_dot list rise from) in
    next_found list rise from c.partition_point-place.result c.min-end.result parted.0 parted.1 (λ l. omega arith)
