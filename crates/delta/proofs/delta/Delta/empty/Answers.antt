use Rattle.std.proofs.Common.{ap, ◌∙◌}
use Rattle.std.specs.FinMap as map
use Rattle.std.specs.FinSet as set
use Rattle.dots.specs.Orders.{dot_cmp}
use Rattle.member_orset.specs.Members.{condition_at, condition_of}
use Rattle.delta.proofs.delta.Delta.empty.Goals as goal

pub returns-clause-empty : goal.returns-clause-empty
returns-clause-empty c = record {
  conditions = λ dot. ap (λ m. condition_of m dot) c.of.ensures.members ∙ (λ i. condition_at ((ap (λ m. map.get m dot) c.new.ensures.live ∙ map.get-empty dot_cmp dot) i) ((ap (λ s. set.contains s dot) c.new.ensures.known ∙ set.contains-empty dot_cmp dot) i));
  known = ap (λ m. m.known) c.of.ensures.members ∙ c.new.ensures.known;
  totals = ap (λ t. t.entries) c.of.ensures.totals ∙ c.new-2.ensures;
}
