use Rattle.std.proofs.Common.{take}
use Rattle.step_database.specs.Standing.{AreRowsOf}
use Rattle.step_database.proofs.writing.rows_of_steps.Given as goal

-- the rows of the steps up to this one
abbrev pub invariant-loop-step : goal.invariant-loop-step
invariant-loop-step l = AreRowsOf l.rows.items (take l.step-index l.steps)
