use Rattle.std.proofs.Common.{ap, sym, subst}
use Rattle.dots.specs.DotSets.{IsPrefix}
use Rattle.causal_context.proofs.Views.{prefix_of_run, prefix_of_none}
use Rattle.causal_context.proofs.context.Context.prefix.Goals as goal

pub returns-in-Some-clause-value : goal.returns-in-Some-clause-value
returns-in-Some-clause-value c =
    let rs = c.self.inside.runs.items in
    let e = prefix_of_run rs c.args.site _ c.in-Some.ensures.0 c.in-Some.ensures.1 c.in-Some.ensures.2 in
    subst (λ k. IsPrefix k.dots c.args.site c.run.inside.last) c.self.view_is (subst (IsPrefix _ c.args.site) (ap (λ r. r.last) (sym c.run.view_is)) e)

pub returns-in-None-clause-value : goal.returns-in-None-clause-value
returns-in-None-clause-value c = subst (λ k. IsPrefix k.dots c.args.site 0) c.self.view_is (prefix_of_none c.self.inside.runs.items c.args.site c.in-None.ensures)
