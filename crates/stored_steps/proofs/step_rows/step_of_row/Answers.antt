use Rattle.stored_steps.proofs.ReadRows.{IsRead, fault_found, fault_read, found}
use Rattle.stored_steps.proofs.step_rows.step_of_row.Goals as goal

pub returns-clause-found : goal.returns-clause-found
returns-clause-found c =
    let read : IsRead c.args.row.now c.read_step.result = record { row_is = c.read_step.ensures.row; within = c.read_step.ensures.within; fault = c.read_step.ensures.fault } in
    found c.args.row.now c.read_step.result read

pub returns-clause-fault : goal.returns-clause-fault
returns-clause-fault c fault some =
    let read : IsRead c.args.row.now c.read_step.result = record { row_is = c.read_step.ensures.row; within = c.read_step.ensures.within; fault = c.read_step.ensures.fault } in
    (fault_read c.args.row.now c.read_step.result read fault some, fault_found c.args.row.now c.read_step.result read fault)
