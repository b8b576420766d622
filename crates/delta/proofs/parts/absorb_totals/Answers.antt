use Rattle.std.proofs.Common.{sym, ap, ◌∙◌}
use Rattle.operations.specs.Totals.{join_of}
use Rattle.operations.proofs.TotalsLaws.{joined_empty}
use Rattle.delta.proofs.parts.absorb_totals.Goals as goal

pub returns-else-not-is_empty : goal.returns-else-not-is_empty
returns-else-not-is_empty c = sym (ap (join_of c.args.totals.now.entries) (c.is_empty.ensures.0 c.if-not-is_empty.false) ∙ joined_empty c.args.totals.now.entries)
