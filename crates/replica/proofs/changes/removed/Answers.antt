use Rattle.std.proofs.Common.{ap, ◌∙◌}
use Rattle.std.specs.FinMap as map
use Rattle.dots.specs.Orders.{dot_cmp}
use Rattle.replica.proofs.changes.removed.Goals as goal

pub returns-clause-parts : goal.returns-clause-parts
returns-clause-parts c = record {
  known = c.of_members.ensures.known ∙ c.new.ensures.known ∙ c.in-Ok.ensures.ok;
  live = λ q. c.of_members.ensures.live q ∙ ap (λ live. map.get live q) c.new.ensures.live ∙ map.get-empty dot_cmp q;
  totals = c.of_members.ensures.totals;
  limits = c.of_members.ensures.limits;
}
