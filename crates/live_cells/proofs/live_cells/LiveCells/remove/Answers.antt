use Rattle.std.proofs.Common.{◌≡◌, ◌+◌, ◌<◌, ◌≤◌, length, min, lit<, arith, sym, ap, subst, ◌∙◌}
use Rattle.std.specs.FinMap as map
use Rattle.std.proofs.lemmas.List.Edits.{length-remove}
use Rattle.op_arena.specs.Ids.{id_of}
use Rattle.dots.specs.Orders.{dot_cmp}
use Rattle.dots.proofs.DotOrder.{dots_total, dots_exact}
use Rattle.live_cells.specs.declared.placed.Placed.{Placed}
use Rattle.live_cells.specs.LiveLists.{live_of}
use Rattle.live_cells.specs.LiveStates.{spent_with}
use Rattle.live_cells.specs.Index.{IsPlaceFor, listing}
use Rattle.live_cells.specs.PlacedStates.{AreIndexed, cells_of, listed_at}
use Rattle.live_cells.proofs.Changes.{missed_live}
use Rattle.live_cells.proofs.LiveChanges.{cell, ids_less, indexed_less, live_less, stands_in}
use Rattle.live_cells.proofs.LiveMaps.{id_here, ids_by, len_live, no_id, rise, within_dots}
use Rattle.live_cells.proofs.MapSteps.{kept_without}
use Rattle.live_cells.proofs.CellsOfDots.{no_cell}
use Rattle.live_cells.proofs.live_cells.LiveCells.remove.Goals as goal

pub returns-in_default-clause-live : goal.returns-in_default-clause-live
returns-in_default-clause-live g c =
    let s = c.self.inside.placed in
    subst (λ x. x.live ≡ map.remove x.live c.args.dot) c.self.view_is (missed_live (cells_of s) c.args.dot c.in_default.field-0 (rise s.dots s.held s.spent c.self.invariant.placed) c.in_default.ensures.missed)

pub returns-in_default-clause-ids : goal.returns-in_default-clause-ids
returns-in_default-clause-ids g c =
    let s = c.self.inside.placed in
    subst (λ x. x.ids ≡ map.remove x.ids c.args.dot) c.self.view_is
    (kept_without dot_cmp dots_total dots_exact (ids_by s.dots) c.args.dot (no_id s.dots s.held s.spent c.self.invariant.placed c.args.dot c.in_default.field-0 c.in_default.ensures.missed))

pub returns-in_default-clause-spent : goal.returns-in_default-clause-spent
returns-in_default-clause-spent g c =
    let s = c.self.inside.placed in
    subst (λ x. x.spent ≡ spent_with (map.get x.ids c.args.dot) x.spent) c.self.view_is
    (ap (λ o. spent_with o s.spent) (sym (no_id s.dots s.held s.spent c.self.invariant.placed c.args.dot c.in_default.field-0 c.in_default.ensures.missed)))

pub invariant_of-index : goal.invariant_of-index
invariant_of-index g c = record { indexed = subst (AreIndexed c.self.inside.placed) (sym c.as_slice.ensures) c.self.invariant }

pub cell_at-requires : goal.cell_at-requires
cell_at-requires g c =
    let s = c.self.inside.placed in
    (lit< tt, within_dots s.dots s.held s.spent c.self.invariant.placed c.args.dot c.in-Ok.place c.in-Ok.ensures.found)

pub remove-requires : goal.remove-requires
remove-requires g c =
    let s = c.self.inside.placed in
    let ids = c.self.inside.members.items in
    let none : Placed = record { dot = c.args.dot; id = id_of 0 0 } in
    let own = cell s ids c.self.invariant c.args.dot c.in-Ok.place none c.in-Ok.ensures.found in
    let is = subst (λ x. IsPlaceFor (listed_at s.held c.as_slice.result.now) (listing x) c.place_for-listed.result) (c.cell_at.ensures (no_cell c.args.dot)) c.place_for-listed.ensures in
    let at = subst (λ xs. IsPlaceFor (listed_at s.held xs) (listing own) c.place_for-listed.result) c.as_slice.ensures is in
    let inside : c.place_for-listed.result < length ids = stands_in s ids c.self.invariant c.args.dot c.in-Ok.place none c.in-Ok.ensures.found c.place_for-listed.result at in
    inside

pub remove-requires-2 : goal.remove-requires-2
remove-requires-2 g c =
    let s = c.self.inside.placed in
    (lit< tt, within_dots s.dots s.held s.spent c.self.invariant.placed c.args.dot c.in-Ok.place c.in-Ok.ensures.found)

pub invariant_of-self : goal.invariant_of-self
invariant_of-self g c =
    let s = c.self.inside.placed in
    let t = c.remove-2.new.self in
    let ids = c.self.inside.members.items in
    let none : Placed = record { dot = c.args.dot; id = id_of 0 0 } in
    let own = cell s ids c.self.invariant c.args.dot c.in-Ok.place none c.in-Ok.ensures.found in
    let is = subst (λ x. IsPlaceFor (listed_at s.held c.as_slice.result.now) (listing x) c.place_for-listed.result) (c.cell_at.ensures (no_cell c.args.dot)) c.place_for-listed.ensures in
    let at = subst (λ xs. IsPlaceFor (listed_at s.held xs) (listing own) c.place_for-listed.result) c.as_slice.ensures is in
    subst (AreIndexed t) (sym c.remove.ensures.items)
    (indexed_less s ids c.self.invariant c.args.dot c.in-Ok.place none c.in-Ok.ensures.found c.place_for-listed.result at t (c.remove-2.ensures.held none) c.remove-2.ensures.cells c.remove-2.ensures.valid)

pub returns-clause-live : goal.returns-clause-live
returns-clause-live g c =
    let s = c.self.inside.placed in
    live_less s c.self.inside.members.items c.self.invariant c.args.dot c.in-Ok.place (record { dot = c.args.dot; id = id_of 0 0 }) c.in-Ok.ensures.found c.remove-2.new.self c.remove-2.ensures.cells
    ∙ ap (λ x. map.remove x.live c.args.dot) c.self.view_is

pub returns-clause-ids : goal.returns-clause-ids
returns-clause-ids g c =
    let s = c.self.inside.placed in
    ids_less s c.self.inside.members.items c.self.invariant c.args.dot c.in-Ok.place (record { dot = c.args.dot; id = id_of 0 0 }) c.in-Ok.ensures.found c.remove-2.new.self c.remove-2.ensures.dots
    ∙ ap (λ x. map.remove x.ids c.args.dot) c.self.view_is

pub returns-clause-spent : goal.returns-clause-spent
returns-clause-spent g c =
    let s = c.self.inside.placed in
    let none : Placed = record { dot = c.args.dot; id = id_of 0 0 } in
    c.remove-2.ensures.spent none ∙ ap (λ o. spent_with o s.spent) (sym (id_here s.dots s.held s.spent c.self.invariant.placed c.args.dot c.in-Ok.place none c.in-Ok.ensures.found))
    ∙ ap (λ x. spent_with (map.get x.ids c.args.dot) x.spent) c.self.view_is

pub returns-clause-room : goal.returns-clause-room
returns-clause-room g c =
    let s = c.self.inside.placed in
    let t = c.remove-2.new.self in
    let count : length s.dots ≡ map.len c.args.self.now.live = sym (len_live s.dots s.held s.spent c.self.invariant.placed) ∙ ap (λ x. map.len x.live) c.self.view_is in
    let after : map.len (live_of (cells_of t)) ≡ length t.dots = len_live t.dots t.held t.spent c.remove-2.ensures.valid in
    let less : length t.dots + 1 ≡ length s.dots = ap (λ ds. length ds + 1) c.remove-2.ensures.dots ∙ length-remove s.dots c.in-Ok.place (within_dots s.dots s.held s.spent c.self.invariant.placed c.args.dot c.in-Ok.place c.in-Ok.ensures.found) in
    let room : min s.room c.self.inside.members.room ≡ c.args.self.now.room = ap (λ x. x.room) c.self.view_is in
    let kept : c.remove.new.self.room ≡ c.self.inside.members.room = c.remove.ensures.room in
    let own : s.room ≤ t.room + 1 = c.remove-2.ensures.room in
    omega (arith, count, after, less, room, kept, own)
