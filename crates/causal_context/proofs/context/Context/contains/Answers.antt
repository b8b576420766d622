use Rattle.std.proofs.Common.{◌≡◌, ◌∙◌}
use Rattle.std.specs.FinSet as sets
use Rattle.dots.specs.Values.{Dot}
use Rattle.causal_context.proofs.Views.{found}
use Rattle.causal_context.proofs.context.Context.contains.Goals as goal

pub returns : goal.returns
returns c =
    let d : Dot = record { site = c.site.result; count = c.count.result } in
    let same : d ≡ c.args.dot = λ i. record { site = c.site.ensures.value i; count = c.count.ensures.value i } in
    c.is_some.ensures ∙ found c.run_with.result c.self.inside.runs.items d c.run_with.ensures ∙ (λ i. sets.contains (c.self.view_is i).dots (same i))
