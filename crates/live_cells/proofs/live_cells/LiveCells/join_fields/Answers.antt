use Rattle.std.proofs.Common.{◌≡◌, lit<, sym, ap, subst, ◌∙◌}
use Rattle.std.specs.FinMap as map
use Rattle.op_arena.specs.Ids.{id_of}
use Rattle.operations.specs.Conditions.{FieldsAgree}
use Rattle.std.specs.Prelude.{IfSome}
use Rattle.live_cells.specs.declared.placed.Placed.{Placed}
use Rattle.live_cells.specs.LiveStates.{fields_joined_at, joined_at_held}
use Rattle.live_cells.specs.PlacedStates.{cells_of}
use Rattle.live_cells.specs.Holdings.{Holding}
use Rattle.live_cells.proofs.Changes.{gap_live}
use Rattle.live_cells.proofs.LiveChanges.{has_met, indexed_joined}
use Rattle.live_cells.proofs.LiveMaps.{live_here, rise, within_dots}
use Rattle.live_cells.proofs.CellsOfDots.{no_cell}
use Rattle.live_cells.proofs.live_cells.LiveCells.join_fields.Goals as goal

pub join_fields-requires : goal.join_fields-requires
join_fields-requires g c =
    let s = c.self.inside.placed in (
      lit< tt,
      (
        within_dots s.dots s.held s.spent c.self.invariant.placed c.args.dot c.in-Ok.place c.in-Ok.ensures.found,
        λ d. subst (λ o. IfSome o (λ (h : Holding). FieldsAgree h.1 c.args.fields.now))
            (ap (λ x. map.get x.live c.args.dot) (sym c.self.view_is) ∙ live_here s.dots s.held s.spent c.self.invariant.placed c.args.dot c.in-Ok.place d c.in-Ok.ensures.found) c.requires,
      ),
    )

pub invariant_of-self : goal.invariant_of-self
invariant_of-self g c =
    let s = c.self.inside.placed in
    let t = c.join_fields.new.self in
    let none : Placed = record { dot = c.args.dot; id = id_of 0 0 } in
    indexed_joined s t c.self.inside.members.items c.self.invariant c.args.dot c.in-Ok.place none c.args.fields.now c.in-Ok.ensures.found
    (c.join_fields.ensures.held none (no_cell c.args.dot)) (c.join_fields.ensures.cells (no_cell c.args.dot)) c.join_fields.ensures.valid

pub returns-in-Ok-clause-live : goal.returns-in-Ok-clause-live
returns-in-Ok-clause-live g c =
    let s = c.self.inside.placed in
    let t = c.join_fields.new.self in
    let none : Placed = record { dot = c.args.dot; id = id_of 0 0 } in
    has_met s t c.self.inside.members.items c.self.invariant c.args.dot c.in-Ok.place none c.args.fields.now c.in-Ok.ensures.found
    (c.join_fields.ensures.held none (no_cell c.args.dot)) (c.join_fields.ensures.cells (no_cell c.args.dot))
    ∙ ap (λ x. fields_joined_at x.live c.args.dot c.args.fields.now) c.self.view_is

pub returns-in-Err-clause-live : goal.returns-in-Err-clause-live
returns-in-Err-clause-live g c =
    let s = c.self.inside.placed in
    subst (λ x. x.live ≡ fields_joined_at x.live c.args.dot c.args.fields.now) c.self.view_is
    (sym (ap (joined_at_held _ c.args.dot c.args.fields.now) (gap_live (cells_of s) c.args.dot c.in-Err.place (rise s.dots s.held s.spent c.self.invariant.placed) c.in-Err.ensures.missed)))
