use Rattle.std.proofs.Common.{arith}
use Rattle.dots.proofs.RunCounts.{run_count_runs}
use Rattle.causal_context.proofs.Uniting.{length_replaced}
use Rattle.causal_context.proofs.run_list.RunList.count_with.Goals as goal

pub returns-clause-value : goal.returns-clause-value
returns-clause-value c =
    let u = c.unite-start.result in
    let place = c.unite-start.ensures.place in
    let count = run_count_runs _ _ c.unite-start.ensures.united in
    let whole = length_replaced c.args.self.now.items u.start u.end u.run place.order place.within in
    omega (arith, count, whole)
