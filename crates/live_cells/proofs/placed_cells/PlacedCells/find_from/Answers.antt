use Rattle.std.proofs.Common.{◌≡◌, ◌≢◌, ◌<◌, ◌≤◌, length, arith, sym, ap, subst, ◌∙◌}
use Rattle.op_arena.specs.Ids.{id_of}
use Rattle.dots.proofs.DotOrder.{dots_total, dots_exact}
use Rattle.dots.specs.Orders.{dot_cmp}
use Rattle.std.specs.List.{AllWithin}
use Rattle.std.specs.Ordering.{is_lt}
use Rattle.std.specs.Prelude.{List, false, get_or}
use Rattle.live_cells.specs.declared.placed.Placed.{Placed}
use Rattle.live_cells.proofs.DotTests.{tested_other, tested_same}
use Rattle.live_cells.proofs.CellsOfDots.{Ahead, at_cells, gap_cells}
use Rattle.live_cells.proofs.Rising as rising
use Rattle.live_cells.proofs.placed_cells.PlacedCells.find_from.Goals as goal

pub returns-then-place-dots-clause-missed : goal.returns-then-place-dots-clause-missed
returns-then-place-dots-clause-missed g c =
    let s = c.args.self.now in
    let at = c.place_from-place.result in
    let none : Placed = record { dot = c.args.dot; id = id_of 0 0 } in
    let same = c.placed-dots.ensures.value in
    let within : at ≤ length s.dots = subst (λ (ds : List Placed). at ≤ length ds) same c.place_from-place.ensures.within in
    let ahead = subst (λ ds. Ahead c.args.dot ds at) same c.place_from-place.ensures.before in
    let end : at ≡ length s.dots = c.if-place-dots.true ∙ ap length same in
    gap_cells s.dots s.held c.placed-dots.ensures.valid.there c.args.dot at within ahead (λ p l. absurd (omega arith)) none

pub returns-then-ne-clause-missed : goal.returns-then-ne-clause-missed
returns-then-ne-clause-missed g c =
    let s = c.args.self.now in
    let at = c.place_from-place.result in
    let x = c.index-dots-place.result in
    let same = c.placed-dots.ensures.value in
    let len = ap length same in
    let within : at ≤ length s.dots = subst (λ (ds : List Placed). at ≤ length ds) same c.place_from-place.ensures.within in
    let ahead = subst (λ ds. Ahead c.args.dot ds at) same c.place_from-place.ensures.before in
    let past = subst (λ ds. AllWithin (λ p. is_lt (dot_cmp p.dot c.args.dot) ≡ false) ds at (length ds)) same c.place_from-place.ensures.after in
    let inside : at < length s.dots = let n = c.if-place-dots.false in omega arith in
    let other = subst (λ (p : Placed). c.args.dot ≢ p.dot) (sym c.index-dots-place.is) (tested_other (get_or c.placed-dots.result.list.now at x).dot c.args.dot c.ne.result c.ne.ensures c.if-ne.true) in
    gap_cells s.dots s.held c.placed-dots.ensures.valid.there c.args.dot at within ahead
    (rising.lies_after dot_cmp dots_total dots_exact (λ p. p.dot) (λ p. p.id) c.args.dot s.dots at x inside (subst (λ ds. x ≡ get_or ds at x) same c.index-dots-place.is) other past) x

pub returns-clause-found : goal.returns-clause-found
returns-clause-found g c =
    let s = c.args.self.now in
    let at = c.place_from-place.result in
    let x = c.index-dots-place.result in
    let same = c.placed-dots.ensures.value in
    let len = ap length same in
    let within : at ≤ length s.dots = subst (λ (ds : List Placed). at ≤ length ds) same c.place_from-place.ensures.within in
    let ahead = subst (λ ds. Ahead c.args.dot ds at) same c.place_from-place.ensures.before in
    let inside : at < length s.dots = let n = c.if-place-dots.false in omega arith in
    let is = subst (λ (p : Placed). c.args.dot ≡ p.dot) (sym c.index-dots-place.is) (tested_same (get_or c.placed-dots.result.list.now at x).dot c.args.dot c.ne.result c.ne.ensures c.if-ne.false) in
    at_cells s.dots s.held c.placed-dots.ensures.valid.there c.args.dot at x inside ahead (is ∙ ap (λ p. p.dot) (subst (λ ds. x ≡ get_or ds at x) same c.index-dots-place.is))
