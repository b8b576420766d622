use Rattle.std.proofs.Common.{◌≡◌, ◌<◌, List, [], ◌∷◌, length, get_or, cond, is_some, arith, sym, ap, ◌∙◌}
use Rattle.std.specs.FinMap as map
use Rattle.std.specs.FinSet as set
use Rattle.std.specs.List.{remove}
use Rattle.live_cells.specs.declared.live_dot.LiveDot.{LiveDot}
use Rattle.live_cells.specs.LiveLists.{entries_of, entry_of}
use Rattle.live_cells.specs.PlacedStates.{cells_at, ids_of}
use Rattle.live_cells.proofs.PlacedChanges.{less_cells, less_placed, same_placed}
use Rattle.live_cells.proofs.CellsOfDots.{as_long, cell_there, same_some}
use Rattle.live_cells.proofs.taken_cells.TakenCells.take_first.Goals as goal

-- the first cell, and the others behind it
first_apart : (cs : List LiveDot) (c : LiveDot) → 0 < length cs → c ≡ get_or cs 0 c → entries_of cs ≡ entry_of c ∷ entries_of (remove cs 0)
first_apart [] c n is = absurd (omega (arith, n))
first_apart (x ∷ xs) c n is = ap (λ y. entry_of y ∷ entries_of xs) (sym is)

pub invariant_of-self-2 : goal.invariant_of-self-2
invariant_of-self-2 g c =
    let s = c.self.inside in
    let e = c.in_ok-placed.placed in
    let n = ap length c.in_ok-placed.ensures.items in
    let within : 0 < length s.dots.items = omega (arith, n) in
    same_placed _ _ _ _ _ _ c.in_ok-placed.ensures.rest (c.take.ensures.held ∙ ap (λ p. map.remove s.cells.held p.id) c.in_ok-placed.ensures.lookup)
    (c.take.ensures.spent ∙ ap (λ o. cond (is_some o) (set.insert s.cells.spent e.id) s.cells.spent) c.unwrap.ensures ∙ ap (λ p. set.insert s.cells.spent p.id) c.in_ok-placed.ensures.lookup)
    (less_placed s.dots.items s.cells.held s.cells.spent c.self.invariant 0 e within)

pub returns-clause-some : goal.returns-clause-some
returns-clause-some g c =
    let s = c.self.inside in
    let e = c.in_ok-placed.placed in
    let cell = c.unwrap.result in
    let cs = cells_at s.cells.held (ids_of s.dots.items) in
    let n = ap length c.in_ok-placed.ensures.items in
    let within : 0 < length s.dots.items = omega (arith, n) in
    let some : 0 < length cs = omega (arith, within, as_long s.dots.items s.cells.held c.self.invariant.there) in
    let is : cell ≡ get_or cs 0 cell =
    same_some _ _ (sym c.unwrap.ensures ∙ c.take.ensures.value ∙ ap (λ p. map.get s.cells.held p.id) c.in_ok-placed.ensures.lookup ∙ cell_there s.dots.items s.cells.held c.self.invariant.there 0 e cell within) in
    let left : cells_at c.take.new.self.held (ids_of c.pop_front.new.self.items) ≡ remove cs 0 =
    (λ k. cells_at ((c.take.ensures.held ∙ ap (λ p. map.remove s.cells.held p.id) c.in_ok-placed.ensures.lookup) k) (ids_of (c.in_ok-placed.ensures.rest k)))
    ∙ less_cells s.dots.items s.cells.held s.cells.spent c.self.invariant 0 e within in
    sym c.self.view_is ∙ first_apart cs cell some is ∙ ap (λ xs. entry_of cell ∷ entries_of xs) (sym left)
