use Rattle.std.proofs.Common.{rules}
use Rattle.site_links.proofs.Relayed.{merges, totals}
use Rattle.site_links.proofs.comparing.compare.Goals as goal

pub absorb-requires-clause-rule : goal.absorb-requires-clause-rule
absorb-requires-clause-rule c = merges _ _ _ _ (search rules) (search rules)

pub learn_as-requires-clause-rule : goal.learn_as-requires-clause-rule
learn_as-requires-clause-rule c = totals _ _ (search rules) (search rules)
