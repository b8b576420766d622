use Rattle.std.proofs.Common.{◌<◌, List, length, arith, sym, ap, subst, ◌∙◌}
use Rattle.std.specs.List.{Contains}
use Rattle.dots.specs.Values.{Dot}
use Rattle.dots.specs.DotSets.{AreApart, Run}
use Rattle.causal_context.proofs.Members.{at_the_end, at_the_place, misses_past_run}
use Rattle.causal_context.proofs.run_list.RunList.run_with.Goals as goal

pub returns-then-index-runs : goal.returns-then-index-runs
returns-then-index-runs c =
    let d : Dot = record { site = c.args.site; count = c.args.count } in
    at_the_end d c.as_slice-runs.result.now c.args.self.now.items c.place-index.result c.as_slice-runs.ensures.value c.place-index.ensures.place (omega arith)

pub returns-then-not-has : goal.returns-then-not-has
returns-then-not-has c =
    let d : Dot = record { site = c.args.site; count = c.args.count } in
    let runs = c.as_slice-runs.result.now in
    let inside : c.place-index.result < length runs = let within = ap length c.as_slice-runs.ensures.value in omega (arith, within) in
    at_the_place d runs c.args.self.now.items c.place-index.result c.index-runs-index.result c.as_slice-runs.ensures.value c.as_slice-runs.ensures.runs.apart c.place-index.ensures.place inside c.index-runs-index.is
    ∙ sym c.has.ensures ∙ c.if-not-has.true

pub returns : goal.returns
returns c =
    let runs = c.as_slice-runs.result.now in
    let inside : c.place-index.result < length runs = let within = ap length c.as_slice-runs.ensures.value in omega (arith, within) in
    let here : Contains c.args.self.now.items c.index-runs-index.result = subst (λ (xs : List Run). Contains xs c.index-runs-index.result) c.as_slice-runs.ensures.value (c.place-index.result, inside, sym c.index-runs-index.is) in
    (here, sym c.has.ensures ∙ c.if-not-has.false, misses_past_run c.args.self.now.items c.index-runs-index.result (subst AreApart c.as_slice-runs.ensures.value c.as_slice-runs.ensures.runs.apart) here)
