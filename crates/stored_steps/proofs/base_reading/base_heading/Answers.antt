use Rattle.stored_steps.proofs.Headings.{heading_cause, no_heading}
use Rattle.stored_steps.proofs.base_reading.base_heading.Goals as goal

pub returns-clause-cause : goal.returns-clause-cause
returns-clause-cause c = heading_cause c.args.row.now c.read_heading.result c.read_heading.ensures.fault

pub returns-clause-none : goal.returns-clause-none
returns-clause-none c = no_heading c.args.row.now c.read_heading.result c.read_heading.ensures.fault
