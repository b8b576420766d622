use Rattle.std.proofs.Common.{◌≡◌, ap, ◌∙◌}
use Rattle.std.specs.FinSet as sets
use Rattle.dots.specs.Values.{Dot}
use Rattle.causal_context.proofs.Views.{found, has_first, has_second}
use Rattle.causal_context.proofs.context.Context.has.Goals as goal

pub returns-then-is_some : goal.returns-then-is_some
returns-then-is_some c =
    let d : Dot = record { site = c.args.site; count = c.args.count } in
    let first : c.is_some.result ≡ sets.contains c.args.self.now.dots d =
    c.is_some.ensures ∙ found c.run_with.result c.self.inside.runs.items d c.run_with.ensures ∙ ap (λ k. sets.contains k.dots d) c.self.view_is in
    has_first c.is_some.result c.args.self.now.dots c.args.other.now.dots d first c.if-is_some.true

pub returns-else-is_some : goal.returns-else-is_some
returns-else-is_some c =
    let d : Dot = record { site = c.args.site; count = c.args.count } in
    let first : c.is_some.result ≡ sets.contains c.args.self.now.dots d =
    c.is_some.ensures ∙ found c.run_with.result c.self.inside.runs.items d c.run_with.ensures ∙ ap (λ k. sets.contains k.dots d) c.self.view_is in
    let second : c.is_some-else-is_some.result ≡ sets.contains c.args.other.now.dots d =
    c.is_some-else-is_some.ensures ∙ found c.run_with-else-is_some.result c.other.inside.runs.items d c.run_with-else-is_some.ensures ∙ ap (λ k. sets.contains k.dots d) c.other.view_is in
    has_second c.is_some.result c.is_some-else-is_some.result c.args.self.now.dots c.args.other.now.dots d first c.if-is_some.false second
