use Rattle.std.proofs.Common.{◌<◌, arith, ap, sym, subst, ◌∙◌}
use Rattle.std.proofs.lemmas.Result.{on_ok_weaker}
use Rattle.dots.specs.declared.limits.TheConstants.{MOST_RUNS}
use Rattle.dots.specs.DotSets.{Run, run_count}
use Rattle.dots.proofs.OneMoreDot.{insert_known}
use Rattle.causal_context.proofs.Views.{union_one}
use Rattle.causal_context.proofs.context.Context.insert.Goals as goal

pub returns-clause-ok : goal.returns-clause-ok
returns-clause-ok c =
    let run : Run = record { site = c.site.result; first = c.count.result; last = c.count-2.result } in
    let same = union_one c.args.self.now.dots c.args.dot run c.site.ensures.value c.count.ensures.value c.count-2.ensures.value in
    on_ok_weaker c.unite.result (λ h. h ∙ same) c.unite.ensures.ok

pub returns-clause-full : goal.returns-clause-full
returns-clause-full c =
    let run : Run = record { site = c.site.result; first = c.count.result; last = c.count-2.result } in
    let same = union_one c.args.self.now.dots c.args.dot run c.site.ensures.value c.count.ensures.value c.count-2.ensures.value in
    (λ h. subst (λ s. MOST_RUNS < run_count s) same (c.unite.ensures.full.0 h), λ h. c.unite.ensures.full.1 (subst (λ s. MOST_RUNS < run_count s) (sym same) h))

pub returns-clause-known_dot : goal.returns-clause-known_dot
returns-clause-known_dot c h =
    let run : Run = record { site = c.site.result; first = c.count.result; last = c.count-2.result } in
    let same = union_one c.args.self.now.dots c.args.dot run c.site.ensures.value c.count.ensures.value c.count-2.ensures.value in
    let more = ap run_count (same ∙ insert_known c.args.self.now.dots c.args.dot h) in
    c.unite.ensures.no_more (omega (arith, more))
