use Rattle.std.proofs.Common.{◌≡◌, ◌≤◌, length, min, lit<, arith, sym, ap, subst, ◌∙◌}
use Rattle.std.specs.FinMap as map
use Rattle.live_cells.specs.CellIds.{IsNew}
use Rattle.live_cells.specs.Index.{IsPlaceFor, listing}
use Rattle.live_cells.specs.PlacedStates.{AreIndexed, listed_at}
use Rattle.live_cells.proofs.ListedIds.{as_long}
use Rattle.live_cells.proofs.LiveChanges.{ids_more, indexed_more, is_new, live_more, members_count}
use Rattle.live_cells.proofs.LiveMaps.{len_live, live_here, no_id}
use Rattle.live_cells.proofs.CellsOfDots.{no_cell}
use Rattle.live_cells.proofs.live_cells.LiveCells.insert.Goals as goal

pub unreachable-requires : goal.unreachable-requires
unreachable-requires g c =
    let s = c.self.inside.placed in
    let d = c.args.cell.dot in
    let some = sym (live_here s.dots s.held s.spent c.self.invariant.placed d c.in_default.field-0 (no_cell d) c.in_default.ensures.found) ∙ ap (λ x. map.get x.live d) c.self.view_is ∙ c.requires.new in
    cc

pub insert-id-requires : goal.insert-id-requires
insert-id-requires g c =
    let s = c.self.inside.placed in
    let count : length s.dots ≡ map.len c.args.self.now.live = sym (len_live s.dots s.held s.spent c.self.invariant.placed) ∙ ap (λ x. map.len x.live) c.self.view_is in
    let room : min s.room c.self.inside.members.room ≡ c.args.self.now.room = ap (λ x. x.room) c.self.view_is in
    (lit< tt, (c.in-Err.ensures.missed, omega (arith, count, room, c.requires.room)))

pub invariant_of-index : goal.invariant_of-index
invariant_of-index g c = record { indexed = subst (AreIndexed c.self.inside.placed) (sym c.as_slice.ensures) c.self.invariant }

pub insert-requires-clause-within : goal.insert-requires-clause-within
insert-requires-clause-within g c =
    let s = c.self.inside.placed in
    let ids = c.self.inside.members.items in
    let at = subst (λ xs. IsPlaceFor (listed_at s.held xs) (listing c.args.cell) c.place_for-listed.result) c.as_slice.ensures c.place_for-listed.ensures in
    let within : c.place_for-listed.result ≤ length (listed_at s.held ids) = at.within in
    omega (arith, within, as_long s.held ids c.self.invariant.held)

pub insert-requires-clause-room : goal.insert-requires-clause-room
insert-requires-clause-room g c =
    let s = c.self.inside.placed in
    let count : length s.dots ≡ map.len c.args.self.now.live = sym (len_live s.dots s.held s.spent c.self.invariant.placed) ∙ ap (λ x. map.len x.live) c.self.view_is in
    let room : min s.room c.self.inside.members.room ≡ c.args.self.now.room = ap (λ x. x.room) c.self.view_is in
    omega (arith, count, room, members_count s c.self.inside.members.items c.self.invariant, c.requires.room)

pub invariant_of-self : goal.invariant_of-self
invariant_of-self g c =
    let s = c.self.inside.placed in
    let t = c.insert-id.new.self in
    let ids = c.self.inside.members.items in
    let at = subst (λ xs. IsPlaceFor (listed_at s.held xs) (listing c.args.cell) c.place_for-listed.result) c.as_slice.ensures c.place_for-listed.ensures in
    subst (AreIndexed t) (sym c.insert.ensures.items)
    (indexed_more s t ids c.self.invariant c.in-Err.place c.args.cell c.insert-id.result c.in-Err.ensures.missed c.insert-id.ensures.free c.insert-id.ensures.held c.place_for-listed.result c.insert-id.ensures.cells c.insert-id.ensures.valid at)

pub returns-clause-live : goal.returns-clause-live
returns-clause-live g c =
    let s = c.self.inside.placed in
    live_more s c.insert-id.new.self c.self.invariant.placed c.in-Err.place c.args.cell c.insert-id.result c.in-Err.ensures.missed c.insert-id.ensures.free c.insert-id.ensures.held c.insert-id.ensures.cells
    ∙ ap (λ x. map.insert x.live c.args.cell.dot (c.args.cell.member, c.args.cell.fields)) c.self.view_is

pub returns-clause-ids : goal.returns-clause-ids
returns-clause-ids g c =
    let s = c.self.inside.placed in
    ids_more s c.insert-id.new.self c.self.invariant.placed c.in-Err.place c.args.cell c.insert-id.result c.in-Err.ensures.missed c.insert-id.ensures.free c.insert-id.ensures.held c.insert-id.ensures.dots
    ∙ ap (λ x. map.insert x.ids c.args.cell.dot c.insert-id.result) c.self.view_is

pub returns-clause-new : goal.returns-clause-new
returns-clause-new g c =
    let s = c.self.inside.placed in
    subst (λ x. IsNew x.ids x.spent x.spent c.insert-id.result) c.self.view_is
    (is_new s c.insert-id.new.self c.self.invariant.placed c.in-Err.place c.args.cell c.insert-id.result c.in-Err.ensures.missed c.insert-id.ensures.free c.insert-id.ensures.held c.insert-id.ensures.unspent c.insert-id.ensures.lesser)

pub returns-clause-had_none : goal.returns-clause-had_none
returns-clause-had_none g c =
    let s = c.self.inside.placed in
    ap (λ x. map.get x.ids c.args.cell.dot) (sym c.self.view_is) ∙ no_id s.dots s.held s.spent c.self.invariant.placed c.args.cell.dot c.in-Err.place c.in-Err.ensures.missed
