use Rattle.std.proofs.Common.{sym, ◌∙◌}
use Rattle.stored_steps.proofs.Refusing.{row_can_come}
use Rattle.stored_steps.proofs.restoring.replay_row.Goals as goal

pub returns-clause-refused : goal.returns-clause-refused
returns-clause-refused c to leads =
    let other = sym c.is_start.ensures ∙ c.if-is_start.false in
    c.replay_step-done.ensures.refused (row_can_come c.args.journal.now to c.args.row.now c.step_of_row.result c.in-Ok.step c.in-Ok.is other c.step_of_row.ensures.found leads)
