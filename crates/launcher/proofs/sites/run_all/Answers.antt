use Rattle.std.proofs.Common.{◌∙◌, sym}
use Rattle.std.proofs.lemmas.Result.{IfOk-weaker}
use Rattle.launcher.proofs.sites.run_all.Goals as goal

pub returns-clause-ends : goal.returns-clause-ends
returns-clause-ends g c = IfOk-weaker c.join_sites.result _ _
    (λ ends are. are c.args.limit c.args.all.items (sym c.args.all.ok.0 ∙ sym c.in_default.ensures.number) c.in_default.ensures.promised) c.join_sites.ensures.ends
