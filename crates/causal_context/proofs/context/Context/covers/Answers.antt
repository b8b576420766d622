use Rattle.std.proofs.Common.{◌∙◌}
use Rattle.std.specs.FinSet as sets
use Rattle.causal_context.proofs.context.Context.covers.Goals as goal

pub returns : goal.returns
returns c = c.covers.ensures ∙ (λ i. sets.is_subset (c.other.view_is i).dots (c.self.view_is i).dots)
