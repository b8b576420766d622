use Rattle.stored_steps.proofs.BaseCauses.{base_cause, no_base}
use Rattle.stored_steps.proofs.Reading.{base_same}
use Rattle.stored_steps.proofs.WrittenBases.{base_found}
use Rattle.stored_steps.proofs.base_reading.base_of_row.Goals as goal

pub returns-clause-cause : goal.returns-clause-cause
returns-clause-cause c = base_cause c.args.site c.args.list.now c.args.row.now c.read_base.result c.read_base.ensures.fault

pub returns-clause-none : goal.returns-clause-none
returns-clause-none c = no_base c.args.site c.args.list.now c.args.row.now c.read_base.result c.read_base.ensures.fault

pub returns-clause-same : goal.returns-clause-same
returns-clause-same c = base_same c.args.row.now c.read_base.result c.read_base.ensures.read

pub returns-clause-found : goal.returns-clause-found
returns-clause-found c = base_found c.args.site c.args.list.now c.args.row.now c.read_base.result c.read_base.ensures.fault
