use Rattle.operations.proofs.TotalsLaws.{read_alike}
use Rattle.site_totals.proofs.laws.totals_that_read_alike_are_equal.Goals as goal

pub returns : goal.returns
returns c = read_alike
