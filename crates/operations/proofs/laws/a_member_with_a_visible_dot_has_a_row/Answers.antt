use Rattle.operations.specs.Operations.{penalty_field, pause_field, label_field, ring_field}
use Rattle.operations.proofs.RowLaws.{shows_latest}
use Rattle.operations.proofs.ShownLaws.{has_values, row_is, shows_field}
use Rattle.operations.proofs.laws.a_member_with_a_visible_dot_has_a_row.Goals as goal

pub returns-clause-there : goal.returns-clause-there
returns-clause-there c = row_is

pub returns-clause-penalty : goal.returns-clause-penalty
returns-clause-penalty c = shows_latest penalty_field

pub returns-clause-pause : goal.returns-clause-pause
returns-clause-pause c = shows_latest pause_field

pub returns-clause-label : goal.returns-clause-label
returns-clause-label c = shows_latest label_field

pub returns-clause-values : goal.returns-clause-values
returns-clause-values c = has_values

pub returns-clause-penalty_shown : goal.returns-clause-penalty_shown
returns-clause-penalty_shown c = shows_field penalty_field

pub returns-clause-pause_shown : goal.returns-clause-pause_shown
returns-clause-pause_shown c = shows_field pause_field

pub returns-clause-label_shown : goal.returns-clause-label_shown
returns-clause-label_shown c = shows_field label_field

pub returns-clause-ring : goal.returns-clause-ring
returns-clause-ring c = shows_latest ring_field

pub returns-clause-ring_shown : goal.returns-clause-ring_shown
returns-clause-ring_shown c = shows_field ring_field
