use Rattle.std.proofs.Common.{arith, ap, ◌∙◌}
use Rattle.dots.specs.DotSets.{run_count, set_of}
use Rattle.causal_context.proofs.Views.{counted, is_runs}
use Rattle.causal_context.proofs.context.Context.as_slice.Goals as goal

pub returns-clause-value : goal.returns-clause-value
returns-clause-value c =
    is_runs c.as_slice.result.now c.args.self.now.dots (ap set_of c.as_slice.ensures.value ∙ ap (λ k. k.dots) c.self.view_is) c.as_slice.ensures.runs.apart

pub returns-clause-few : goal.returns-clause-few
returns-clause-few c =
    let few = counted c.as_slice.result.now c.as_slice.ensures.runs.apart in
    let same = ap (λ rs. run_count (set_of rs)) c.as_slice.ensures.value in
    omega (arith, few, same, c.self.invariant)
