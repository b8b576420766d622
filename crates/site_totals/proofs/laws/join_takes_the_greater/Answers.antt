use Rattle.operations.proofs.TotalsLaws.{totals_at_joined}
use Rattle.site_totals.proofs.laws.join_takes_the_greater.Goals as goal

pub returns : goal.returns
returns c x y site queue = totals_at_joined x y (record { site = site; queue = queue })
