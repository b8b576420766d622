use Rattle.operations.proofs.AlikeViews.{same_row, same_rows}
use Rattle.operations.proofs.laws.views_that_show_alike_have_the_same_rows.Goals as goal

pub returns-clause-row : goal.returns-clause-row
returns-clause-row c = same_row

pub returns-clause-rows : goal.returns-clause-rows
returns-clause-rows c = same_rows
