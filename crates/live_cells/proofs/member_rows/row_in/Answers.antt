use Rattle.std.proofs.Common.{◌∙◌}
use Rattle.live_cells.proofs.ShownCells.{row_of_group}
use Rattle.live_cells.proofs.member_rows.row_in.Goals as goal

pub returns : goal.returns
returns c = c.row_over.ensures ∙ row_of_group c.args.index.cells.now c.args.index.ids.now c.group_of.result.now c.args.member.now c.args.index.indexed c.group_of.ensures.group
