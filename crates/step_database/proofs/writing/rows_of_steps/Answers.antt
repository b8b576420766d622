use Rattle.step_database.proofs.StepRows.{rows_of_more}
use Rattle.step_database.proofs.writing.rows_of_steps.Goals as goal

pub loop-step-preserved : goal.loop-step-preserved
loop-step-preserved c =
    rows_of_more c.loop-step.rows.items c.add_row.new.rows.items c.args.steps.now c.step-item.result c.loop-step.step-index c.loop-step-test.true c.step-item.is c.loop-step.invariant c.in_ok-add_row.ensures.added
    c.in_ok-add_row.ensures.within
