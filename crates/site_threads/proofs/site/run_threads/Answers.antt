use Rattle.std.proofs.Common.{◌∙◌, sym}
use Rattle.std.proofs.lemmas.Result.{IfOk-weaker}
use Rattle.site_threads.proofs.TaskLemmas.{all_done, order_all}
use Rattle.site_threads.proofs.site.run_threads.Goals as goal

-- the passes come back in the order of the tasks
pub returns-clause-all : goal.returns-clause-all
returns-clause-all g c = IfOk-weaker c.run_threads.result _ _
    (λ all are. let done = all_done g.W.Workplace.does g.T.TaskOutput.gives g.L.SiteLedger.site g.L.SiteLedger.names _ c.args.tasks.items c.args.passes.items all.passes.items all.outputs.items
    c.requires.place c.requires.passes c.args.tasks.ok.0 are in
    order_all _ all.passes.items (done.all ∙ sym c.args.tasks.ok.0) done.given.order) c.run_threads.ensures.done

-- each task has given its output
pub returns-clause-done : goal.returns-clause-done
returns-clause-done g c = IfOk-weaker c.run_threads.result _ _
    (λ all are. all_done _ _ _ _ _ c.args.tasks.items c.args.passes.items all.passes.items all.outputs.items c.requires.place c.requires.passes c.args.tasks.ok.0 are) c.run_threads.ensures.done
