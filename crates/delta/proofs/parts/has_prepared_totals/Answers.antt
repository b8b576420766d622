use Rattle.delta.proofs.EmptyTotals.{room_for_nothing}
use Rattle.delta.proofs.parts.has_prepared_totals.Goals as goal

pub returns-then-is_empty : goal.returns-then-is_empty
returns-then-is_empty c = (λ h. room_for_nothing c.args.totals.now c.args.other.now.entries (c.is_empty.ensures.0 h), λ _. c.if-is_empty.true)
