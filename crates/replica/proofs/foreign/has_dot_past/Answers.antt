use Rattle.replica.proofs.Hearing.{dot_past, through}
use Rattle.replica.proofs.foreign.has_dot_past.Goals as goal

pub returns : goal.returns
returns c =
    through c.has_run_past.ensures
    (dot_past c.args.site c.args.last c.as_slice.result.now c.args.context.now.dots c.as_slice.ensures.value c.as_slice.ensures.limits)
