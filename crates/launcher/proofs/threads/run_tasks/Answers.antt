use Rattle.std.proofs.Common.{◌∙◌, sym}
use Rattle.std.proofs.lemmas.Result.{IfOk-weaker}
use Rattle.launcher.proofs.threads.run_tasks.Goals as goal

pub returns : goal.returns
returns g c = IfOk-weaker c.join_tasks.result _ _
    (λ all are. are c.args.given.tasks.items c.args.given.passes.items (sym c.args.given.tasks.ok.0 ∙ sym c.in_default.ensures.number) c.in_default.ensures.promised) c.join_tasks.ensures.done
