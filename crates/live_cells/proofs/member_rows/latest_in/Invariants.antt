use Rattle.std.proofs.Common.{◌≡◌, take}
use Rattle.std.specs.Option.{option_map}
use Rattle.live_cells.specs.ShownRows.{fields_shown, latest_fields}
use Rattle.live_cells.proofs.ShownCells.{fields_at}
use Rattle.live_cells.proofs.member_rows.latest_in.Given as goal

abbrev pub invariant-loop-id : goal.invariant-loop-id
invariant-loop-id g l = option_map latest_fields l.latest ≡ fields_shown (fields_at l.cells.held (take l.id-index l.ids))
