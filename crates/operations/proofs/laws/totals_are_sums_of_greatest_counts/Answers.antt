use Rattle.std.proofs.Common.{refl}
use Rattle.operations.proofs.ShownLaws.{is_greatest}
use Rattle.operations.proofs.laws.totals_are_sums_of_greatest_counts.Goals as goal

pub returns-clause-site : goal.returns-clause-site
returns-clause-site c = is_greatest

pub returns-clause-queue : goal.returns-clause-queue
returns-clause-queue c = λ k queue calls. refl
