use Rattle.std.proofs.Common.{Some, ap, ◌∙◌}
use Rattle.std.specs.Option.{option_map}
use Rattle.live_cells.specs.ShownRows.{latest_fields}
use Rattle.live_cells.proofs.ShownCells.{shown_cell, shown_none}
use Rattle.live_cells.proofs.member_rows.latest_in.Goals as goal
use Rattle.live_cells.proofs.member_rows.latest_in.Goals.{in-Some, in_default}

pub loop-id-preserved : goal.loop-id-preserved
loop-id-preserved g c =
    let held = c.args.cells.now.held in
    let ids = c.args.ids.now in
    elim c.match-cell.branch [
      | in-Some w ↦ ap (option_map latest_fields) w.latest-is ∙ ap Some w.after.ensures
          ∙ shown_cell held ids c.loop-id.id-index c.id-item.result w.in-Some.cell.now _ c.loop-id-test.true c.id-item.is w.in-Some.ensures c.loop-id.invariant
      | in_default w ↦ ap (option_map latest_fields) w.latest-is ∙ shown_none held ids c.loop-id.id-index c.id-item.result _ c.loop-id-test.true c.id-item.is w.in_default.ensures c.loop-id.invariant
    ]
