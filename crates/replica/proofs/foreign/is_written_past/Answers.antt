use Rattle.replica.proofs.Hearing.{through, written_past}
use Rattle.replica.proofs.foreign.is_written_past.Goals as goal

pub returns-in-Some : goal.returns-in-Some
returns-in-Some g c = through c.is_stamp_past.ensures (written_past c.args.site c.args.last c.args.register.now c.in-Some.stamp c.in-Some.ensures)
