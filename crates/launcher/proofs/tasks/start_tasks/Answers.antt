use Rattle.std.proofs.Common.{◌≡◌, ◌∙◌, Some, ap, arith, slice_get, sym, vec_len}
use Rattle.launcher.specs.Promises.{IsTaskPromisedAt}
use Rattle.launcher.proofs.PlaceLemmas.{each_pop, each_push}
use Rattle.launcher.proofs.tasks.start_tasks.Goals as goal

-- a thread more promises the last task that was left
pub loop-task-preserved : goal.loop-task-preserved
loop-task-preserved g c =
    let was = c.loop-task.invariant in
    let less = c.in-Some.ensures.cases in
    let less_passes = c.in-Some-pop.ensures.cases in
    let made = c.in-Ok.ensures in
    let kept = each_pop (λ place task. slice_get c.args.given.tasks.items place ≡ Some task) c.loop-task.tasks.items c.pop.new.self.items c.in-Some.task c.in-Some.ensures.items was.4 in
    let kept_passes = each_pop (λ place pass. slice_get c.args.given.passes.items place ≡ Some pass) c.loop-task.passes.items c.pop-in-Some.new.self.items c.in-Some-pop.pass c.in-Some-pop.ensures.items was.5 in (
      omega (arith, was.0, less, less_passes),
      omega (arith, c.push_reserved.ensures.len, was.1, less),
      (let e = c.push_reserved.ensures.capacity in omega (arith, e, was.2)),
      each_push (λ k worker. IsTaskPromisedAt c.args.given.tasks.items c.args.given.passes.items k worker.promise) c.loop-task.workers.items c.push_reserved.new.self.items c.in-Ok.worker c.push_reserved.ensures.items was.3
          (λ place at. record {
            task_is = ap (slice_get c.args.given.tasks.items) (let here : vec_len c.pop.new.self ≡ place = omega (arith, at, was.1, less, c.loop-task.workers.ok.0, c.args.given.tasks.ok.0) in sym here ∙ c.pop.new.self.ok.0) ∙ (kept.1 ∙ ap Some (sym made.task));
            pass_is = ap (slice_get c.args.given.passes.items) (let here : vec_len c.pop-in-Some.new.self ≡ place = omega (arith, at, was.0, was.1, less, less_passes, c.loop-task.workers.ok.0, c.args.given.tasks.ok.0) in sym here ∙ c.pop-in-Some.new.self.ok.0) ∙ (kept_passes.1 ∙ ap Some (sym made.pass));
          }),
      kept.0,
      kept_passes.0,
    )
