use Rattle.operations.specs.Operations.{penalty_field, pause_field, label_field, ring_field}
use Rattle.operations.proofs.ShownLaws.{is_computed}
use Rattle.operations.proofs.laws.a_field_is_the_latest_setting.Goals as goal

pub returns-clause-penalty : goal.returns-clause-penalty
returns-clause-penalty c = is_computed penalty_field

pub returns-clause-pause : goal.returns-clause-pause
returns-clause-pause c = is_computed pause_field

pub returns-clause-label : goal.returns-clause-label
returns-clause-label c = is_computed label_field

pub returns-clause-ring : goal.returns-clause-ring
returns-clause-ring c = is_computed ring_field
