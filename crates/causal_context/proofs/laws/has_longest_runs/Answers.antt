use Rattle.causal_context.proofs.Members.{nothing_past, nothing_before}
use Rattle.causal_context.proofs.laws.has_longest_runs.Goals as goal

pub returns : goal.returns
returns c = record { past = nothing_past; before = nothing_before }
