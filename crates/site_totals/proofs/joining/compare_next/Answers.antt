use Rattle.std.proofs.Common.{arith}
use Rattle.std.specs.Ordering.{on}
use Rattle.operations.specs.Totals.{key_cmp}
use Rattle.general_lemmas.proofs.Fronts.{none_there}
use Rattle.site_totals.proofs.joining.compare_next.Goals as goal

-- the others are at their end
pub returns-then-theirs-others : goal.returns-then-theirs-others
returns-then-theirs-others c = none_there (on (λ row. row.0) key_cmp) c.args.rows.now c.args.others.now c.args.own c.args.theirs (omega arith) (omega arith)
