use Rattle.delta.proofs.EmptyTotals.{room_for_nothing}
use Rattle.delta.proofs.parts.prepare_totals.Goals as goal

pub returns-then-is_empty-clause-ok : goal.returns-then-is_empty-clause-ok
returns-then-is_empty-clause-ok c = room_for_nothing c.args.totals.now c.args.other.now.entries (c.is_empty.ensures.0 c.if-is_empty.true)
