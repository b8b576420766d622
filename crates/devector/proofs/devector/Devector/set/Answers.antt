use Rattle.std.proofs.Common.{arith}
use Rattle.std.proofs.lemmas.List.{drop-set-add}
use Rattle.devector.proofs.devector.Devector.set.Goals as goal

pub returns-clause-items : goal.returns-clause-items
returns-clause-items g c = grind (arith, drop-set-add)
