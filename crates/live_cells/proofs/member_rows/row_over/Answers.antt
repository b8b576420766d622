use Rattle.std.proofs.Common.{Some, ap, ◌∙◌}
use Rattle.std.specs.Option.{option_map}
use Rattle.operations.specs.Rows.{row_of_fields}
use Rattle.operations.specs.Views.{row_view}
use Rattle.live_cells.proofs.member_rows.row_over.Goals as goal

pub returns-in_err-latest : goal.returns-in_err-latest
returns-in_err-latest g c = ap (option_map row_view) c.from_residual.ensures ∙ ap (option_map row_of_fields) c.in_err-latest.ensures

pub returns : goal.returns
returns g c = ap Some c.row.ensures ∙ ap (option_map row_of_fields) c.in_ok-latest.ensures
