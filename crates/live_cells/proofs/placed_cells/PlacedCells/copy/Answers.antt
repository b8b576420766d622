use Rattle.std.proofs.Common.{◌≡◌, ℕ, ◌+◌, ◌≤◌, ◌<◌, List, [], ◌∷◌, ◌++◌, length, get_or, take, lit<, arith, sym, ap, subst, ◌∙◌}
use Rattle.std.specs.List.{insert}
use Rattle.std.specs.Ordering.{is_lt}
use Rattle.std.proofs.lemmas.List.{get_or-take, length-take-le, take_all, take_more}
use Rattle.std.proofs.lemmas.List.Edits.{insert_end}
use Rattle.dots.specs.Orders.{dot_cmp}
use Rattle.dots.proofs.DotOrder.{dots_total, dots_exact}
use Rattle.live_cells.specs.declared.live_dot.LiveDot.{LiveDot}
use Rattle.live_cells.specs.LiveLists.{IsGap, holding}
use Rattle.live_cells.specs.PlacedStates.{cells_of}
use Rattle.live_cells.proofs.CellLists.{Rise}
use Rattle.live_cells.proofs.LiveMaps.{rise}
use Rattle.live_cells.proofs.CellsOfDots.{as_long}
use Rattle.live_cells.proofs.Rising as rising
use Rattle.live_cells.proofs.placed_cells.PlacedCells.copy.Goals as goal

-- the next cell goes in behind those before it
gap_next : (cs : List LiveDot) (i : ℕ) (c : LiveDot) → Rise cs → i < length cs → c ≡ get_or cs i c → IsGap (take i cs) c.dot i
gap_next cs i c s l is = record {
  within = omega (arith, length-take-le i cs (omega arith));
  before = λ k e lo hi.
      ap (λ x. is_lt (dot_cmp x.dot c.dot)) (get_or-take i cs k e hi) ∙ ap (λ x. is_lt (dot_cmp (get_or cs k e).dot x.dot)) is
      ∙ rising.earlier dot_cmp dots_total dots_exact (λ x. x.dot) holding cs k i e c s hi l;
  after = λ e m. absurd (omega (arith, m, length-take-le i cs (omega arith)));
}

next_more : (cs : List LiveDot) (i : ℕ) (c : LiveDot) → i < length cs → c ≡ get_or cs i c → insert (take i cs) i c ≡ take (i + 1) cs
next_more cs i c l is =
    let n : length (take i cs) ≡ i = length-take-le i cs (omega arith) in
    ap (λ k. insert (take i cs) k c) (sym n) ∙ insert_end (take i cs) c ∙ ap (λ x. take i cs ++ x ∷ []) is ∙ sym (take_more cs i c l)

pub insert-requires : goal.insert-requires
insert-requires g c =
    let s = c.args.self.now in
    let t = c.loop-place.copy in
    let v = c.loop-place.invariant in
    let i = c.loop-place.place in
    let cell = c.copy-in-loop-place.result in
    let dots : length c.self.inside.dots.items ≡ length s.dots = ap (λ x. length x.dots) c.self.view_is in
    let inside : i < length s.dots = omega (arith, dots, c.loop-place-test.true, c.len-place-end.ensures.value) in
    let long : length (cells_of s) ≡ length s.dots = as_long s.dots s.held v.own.there in
    let within : i < length (cells_of s) = omega (arith, inside, long) in
    let is : cell ≡ get_or (cells_of s) i cell = c.copy-in-loop-place.ensures ∙ c.cell_at.ensures cell in
    let count : length t.dots ≡ i = sym (as_long t.dots t.held v.valid.there) ∙ ap length v.cells ∙ length-take-le i (cells_of s) (omega (arith, within)) in
    (lit< tt, (subst (λ cs. IsGap cs cell.dot i) (sym v.cells) (gap_next (cells_of s) i cell (rise s.dots s.held s.spent v.own) within is), omega (arith, count, inside, v.room)))

pub loop-place-preserved : goal.loop-place-preserved
loop-place-preserved g c =
    let s = c.args.self.now in
    let v = c.loop-place.invariant in
    let i = c.loop-place.place in
    let cell = c.copy-in-loop-place.result in
    let dots : length c.self.inside.dots.items ≡ length s.dots = ap (λ x. length x.dots) c.self.view_is in
    let within : i < length (cells_of s) = omega (arith, dots, c.loop-place-test.true, c.len-place-end.ensures.value, as_long s.dots s.held v.own.there) in
    let is : cell ≡ get_or (cells_of s) i cell = c.copy-in-loop-place.ensures ∙ c.cell_at.ensures cell in
    let room : length s.dots ≤ c.insert.new.self.room = omega (arith, v.room, c.insert.ensures.room) in
    record {
      cells = c.insert.ensures.cells ∙ ap (λ cs. insert cs i cell) v.cells ∙ next_more (cells_of s) i cell within is;
      spent = c.insert.ensures.spent ∙ v.spent;
      room = room;
      valid = c.insert.ensures.valid;
      own = v.own;
    }

pub returns-clause-cells : goal.returns-clause-cells
returns-clause-cells g c =
    let s = c.args.self.now in
    let v = c.loop-place.invariant in
    let dots : length c.self.inside.dots.items ≡ length s.dots = ap (λ x. length x.dots) c.self.view_is in
    v.cells ∙ take_all c.loop-place.place (cells_of s) (omega (arith, dots, c.loop-place-test.false, c.len-place-end.ensures.value, as_long s.dots s.held v.own.there))
