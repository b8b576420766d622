use Rattle.std.proofs.Common.{arith, ap, sym, ◌∷◌, [], ◌∙◌}
use Rattle.std.specs.FinSet as sets
use Rattle.dots.specs.DotSets.{run_count, set_of}
use Rattle.causal_context.proofs.Views.{counted}
use Rattle.causal_context.proofs.FewRuns.{union_start, union_with, union_whole}
use Rattle.causal_context.proofs.run_list.RunList.absorb_searched.Goals as goal

pub loop-run-init : goal.loop-run-init
loop-run-init c = record {
  united = sym (union_start (set_of c.args.self.now.items) c.as_slice-others.result.now);
  few = omega arith;
  room = omega arith;
}

pub loop-run-preserved : goal.loop-run-preserved
loop-run-preserved c =
    let old = set_of c.args.self.now.items in
    let put = c.put.ensures in
    record {
      united = put.united ∙ ap (λ s. sets.union s (set_of (c.run-item.result ∷ []))) c.loop-run.invariant.united
          ∙ sym (union_with old c.as_slice-others.result.now c.loop-run.run-index c.run-item.result c.loop-run-test.true c.run-item.is);
      few = omega arith;
      room = omega arith;
    }

pub returns-clause-united : goal.returns-clause-united
returns-clause-united c =
    c.loop-run.invariant.united ∙ union_whole (set_of c.args.self.now.items) c.as_slice-others.result.now c.loop-run.run-index c.loop-run-test.false
    ∙ ap (λ xs. sets.union (set_of c.args.self.now.items) (set_of xs)) c.as_slice-others.ensures.value

pub put-requires : goal.put-requires
put-requires c =
    let others = counted c.as_slice-others.result.now c.as_slice-others.ensures.runs.apart in
    let same = ap (λ xs. run_count (set_of xs)) c.as_slice-others.ensures.value in
    omega (arith, others, same)
