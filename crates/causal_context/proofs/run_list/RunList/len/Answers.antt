use Rattle.std.proofs.Common.{ap, sym, ◌∙◌}
use Rattle.dots.specs.DotSets.{run_count, set_of}
use Rattle.causal_context.proofs.Views.{counted}
use Rattle.causal_context.proofs.run_list.RunList.len.Goals as goal

pub returns-clause-counted : goal.returns-clause-counted
returns-clause-counted c = sym (counted c.as_slice.result.now c.as_slice.ensures.runs.apart) ∙ ap (λ rs. run_count (set_of rs)) c.as_slice.ensures.value
