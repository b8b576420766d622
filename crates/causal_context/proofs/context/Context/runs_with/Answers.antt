use Rattle.std.proofs.Common.{ap, sym, ◌∙◌}
use Rattle.std.specs.FinSet as sets
use Rattle.dots.specs.Values.{Dot}
use Rattle.dots.specs.DotSets.{run_count}
use Rattle.dots.proofs.OneMoreDot.{insert_known}
use Rattle.causal_context.proofs.Views.{count_united, with_new}
use Rattle.causal_context.proofs.context.Context.runs_with.Goals as goal

pub returns-then-has : goal.returns-then-has
returns-then-has c =
    let d : Dot = record { site = c.args.site; count = c.args.count } in
    let dots = sets.union c.args.self.now.dots c.args.other.now.dots in
    let united = count_united _ _ _ c.args.self.now.dots c.args.other.now.dots c.united_count-runs.ensures.value (ap (λ k. k.dots) c.self.view_is) (ap (λ k. k.dots) c.other.view_is) in
    united ∙ ap run_count (sym (insert_known dots d (sym c.has.ensures ∙ c.if-has.true)))

pub overflow_sub-result-2 : goal.overflow_sub-result-2
overflow_sub-result-2 c =
    let dots = sets.union c.args.self.now.dots c.args.other.now.dots in
    let united = count_united _ _ _ c.args.self.now.dots c.args.other.now.dots c.united_count-runs.ensures.value (ap (λ k. k.dots) c.self.view_is) (ap (λ k. k.dots) c.other.view_is) in
    (with_new c.united_count-runs.result c.from.result c.from-2.result dots c.args.site c.args.count c.has-next.result c.has-before.result united c.requires.least (sym c.has.ensures ∙ c.if-has.false)
    c.has-next.ensures c.has-before.ensures c.from.ensures c.from-2.ensures).0

pub returns : goal.returns
returns c =
    let dots = sets.union c.args.self.now.dots c.args.other.now.dots in
    let united = count_united _ _ _ c.args.self.now.dots c.args.other.now.dots c.united_count-runs.ensures.value (ap (λ k. k.dots) c.self.view_is) (ap (λ k. k.dots) c.other.view_is) in
    (with_new c.united_count-runs.result c.from.result c.from-2.result dots c.args.site c.args.count c.has-next.result c.has-before.result united c.requires.least (sym c.has.ensures ∙ c.if-has.false)
    c.has-next.ensures c.has-before.ensures c.from.ensures c.from-2.ensures).1
