use Rattle.std.proofs.Common.{◌≡◌, ◌<◌, length, get_or, sym, ap, ◌∙◌, arith}
use Rattle.std.specs.Ordering.{is_lt}
use Rattle.std.proofs.lemmas.List.{get_or_default}
use Rattle.dots.specs.Orders.{dot_cmp}
use Rattle.live_cells.proofs.PlacedOrder.{partitioned, passed_all}
use Rattle.live_cells.proofs.placed_dots.PlacedDots.is_passed.Goals as goal

pub returns-clause-here : goal.returns-clause-here
returns-clause-here c h k e lo hi =
    let place = c.args.place in
    let dots = c.args.self.list.now in
    let x = c.index-self-place.result in
    let same : k ≡ place = omega arith in
    let inside : place < length dots = omega arith in
    ap (λ n. is_lt (dot_cmp (get_or dots n e).dot c.args.dot)) same
    ∙ ap (λ y. is_lt (dot_cmp y.dot c.args.dot)) (get_or_default dots place e x inside)
    ∙ sym c.lt.ensures ∙ h

pub returns-clause-none : goal.returns-clause-none
returns-clause-none c h =
    passed_all (λ x. is_lt (dot_cmp x.dot c.args.dot)) c.args.self.list.now c.args.place c.index-self-place.result (partitioned c.args.dot c.args.self.list.now c.args.self.rise) (omega arith) c.index-self-place.is
    (ap (λ x. is_lt (dot_cmp x.dot c.args.dot)) c.index-self-place.is ∙ sym c.lt.ensures ∙ h)
