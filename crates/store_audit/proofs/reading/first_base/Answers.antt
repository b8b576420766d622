use Rattle.store_audit.proofs.Walking.{first_cause, no_heading, no_named_base}
use Rattle.store_audit.proofs.reading.first_base.Goals as goal

-- the row has no heading
pub returns-in-Err-clause-fault : goal.returns-in-Err-clause-fault
returns-in-Err-clause-fault c = first_cause c.args.row.now c.in-Err.fault c.base_fault.result (no_heading c.args.row.now c.in-Err.fault c.in-Err.ensures.cause) c.base_fault.ensures

-- the row is no base of the site and the queues that it names
pub returns-in-Err-read-clause-fault : goal.returns-in-Err-read-clause-fault
returns-in-Err-read-clause-fault c =
    first_cause c.args.row.now c.in-Err-read.fault c.base_fault-in-Err-read.result
    (no_named_base c.args.row.now c.in-Ok.heading.0 c.in-Ok.heading.1 c.in-Err-read.fault c.in-Ok.ensures.heading c.in-Err-read.ensures.cause) c.base_fault-in-Err-read.ensures
