use Rattle.std.proofs.Common.{sym, subst}
use Rattle.stored_steps.specs.declared.store_fault.StoreFault.{StoreFault}
use Rattle.stored_steps.specs.StoreFaults.{IsOutOfRoom}
use Rattle.stored_steps.proofs.Refusing.{step_refused}
use Rattle.stored_steps.proofs.restoring.replay_step.Goals as goal

pub returns-in-Err-clause-refused : goal.returns-in-Err-clause-refused
returns-in-Err-clause-refused c can =
    let had = c.in_ok-make_room.ensures in
    subst (λ (f : StoreFault). IsOutOfRoom c.args.journal.now.count f) (sym c.replay_fault.ensures)
    (step_refused c.args.journal.now c.make_room.new.journal c.args.step.now c.args.position c.replay.result c.in-Err.fault c.in-Err.is had.room had.full c.replay.ensures.full c.replay.ensures.damaged can)
