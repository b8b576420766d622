use Rattle.std.proofs.Common.{arith, ap, sym, subst, ◌∙◌}
use Rattle.std.specs.FinSet as sets
use Rattle.dots.specs.DotSets.{run_count, set_of}
use Rattle.causal_context.specs.Contexts.{IsRunWithinLimits}
use Rattle.causal_context.proofs.Views.{counted}
use Rattle.causal_context.proofs.FewRuns.{count_with_more, union_start, union_whole}
use Rattle.causal_context.proofs.run_list.RunList.searched_count.Goals as goal

pub loop-run-init : goal.loop-run-init
loop-run-init c =
    let none = ap run_count (union_start (set_of c.args.self.now.items) c.as_slice-others.result.now) in
    record { value = omega arith; few = omega arith }

pub overflow_sub-count : goal.overflow_sub-count
overflow_sub-count c =
    let others = c.as_slice-others.ensures.runs in
    let limit : IsRunWithinLimits c.run-item.result = subst IsRunWithinLimits (sym c.run-item.is) (others.limits c.loop-run.run-index c.run-item.result c.loop-run-test.true) in
    let more = count_with_more c.args.self.now.items c.as_slice-others.result.now c.loop-run.run-index c.run-item.result others.apart c.loop-run-test.true c.run-item.is limit.least limit.ordered in
    omega arith

pub loop-run-preserved : goal.loop-run-preserved
loop-run-preserved c =
    let others = c.as_slice-others.ensures.runs in
    let limit : IsRunWithinLimits c.run-item.result = subst IsRunWithinLimits (sym c.run-item.is) (others.limits c.loop-run.run-index c.run-item.result c.loop-run-test.true) in
    let more = count_with_more c.args.self.now.items c.as_slice-others.result.now c.loop-run.run-index c.run-item.result others.apart c.loop-run-test.true c.run-item.is limit.least limit.ordered in
    record { value = omega arith; few = omega arith }

pub returns-clause-value : goal.returns-clause-value
returns-clause-value c =
    c.loop-run.invariant.value
    ∙ ap run_count (union_whole (set_of c.args.self.now.items) c.as_slice-others.result.now c.loop-run.run-index c.loop-run-test.false
    ∙ ap (λ xs. sets.union (set_of c.args.self.now.items) (set_of xs)) c.as_slice-others.ensures.value)

pub returns-clause-few : goal.returns-clause-few
returns-clause-few c =
    let others = counted c.as_slice-others.result.now c.as_slice-others.ensures.runs.apart in
    let same = ap (λ xs. run_count (set_of xs)) c.as_slice-others.ensures.value in
    omega (arith, others, same)
