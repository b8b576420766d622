use Rattle.std.proofs.Common.{◌≡◌, ◌+◌, IfSome, arith, length, subst}
use Rattle.launcher.specs.Promises.{IsTaskPromisedAt}
use Rattle.launcher.proofs.PlaceLemmas.{each_pop}
use Rattle.launcher.proofs.TaskLemmas.{done_push}
use Rattle.launcher.proofs.tasks.join_tasks.Goals as goal

-- the task of the last thread is done
pub loop-worker-preserved : goal.loop-worker-preserved
loop-worker-preserved g c =
    let was = c.loop-worker.invariant in
    let less = c.in-Some.ensures.cases in
    let promise = c.in-Some.worker.promise in
    let pass = c.join-pass.result.pass in
    let passes = c.loop-worker.passes.items in
    let does = g.W.Workplace.does in
    let gave = subst (λ o. IfSome o (λ output. does promise.task.value promise.pass.value output pass)) c.in-Some-output.is c.join-pass.ensures in (
      omega (arith, c.push_reserved.ensures.len, was.0, less),
      omega (arith, c.push_reserved.ensures.len, c.push_reserved-in-Some.ensures.len, was.1),
      (let e = c.push_reserved.ensures.capacity in omega (arith, e, was.2)),
      (let e = c.push_reserved-in-Some.ensures.capacity in omega (arith, e, was.3)),
      λ tasks old long promised. let before = was.4 tasks old long promised in
          let left = each_pop (λ k worker. IsTaskPromisedAt tasks old k worker.promise) c.loop-worker.workers.items c.pop.new.self.items c.in-Some.worker c.in-Some.ensures.items before.0 in
          let here : length passes + length c.pop.new.self.items + 1 ≡ length tasks = omega (arith, was.0, less, long, c.loop-worker.passes.ok.0, c.pop.new.self.ok.0) in
          let is = left.1 (length passes) here in (
            left.0,
            done_push does tasks old passes c.push_reserved.new.self.items c.loop-worker.outputs.items c.push_reserved-in-Some.new.self.items promise.task.value promise.pass.value pass c.in-Some-output.output
                c.push_reserved.ensures.items c.push_reserved-in-Some.ensures.items is.task_is is.pass_is gave before.1,
          ),
    )

pub returns : goal.returns
returns g c = record {
  done = λ tasks old long promised. let was = c.loop-worker.invariant in record {
    all = omega (arith, was.0, c.in_default.ensures.cases, long, c.loop-worker.passes.ok.0);
    done = (was.4 tasks old long promised).1;
  };
}
