use Rattle.std.proofs.Common.{sym}
use Rattle.std.proofs.lemmas.Result.{IfOk-weaker}
use Rattle.site_threads.proofs.SiteLemmas.{ended_limit}
use Rattle.site_threads.proofs.site.run_replica.Goals as goal

-- the ledger is that of the replica
pub returns-in-Ok : goal.returns-in-Ok
returns-in-Ok g c = let begun = c.in-Ok.ensures in
    IfOk-weaker c.run_site.result _ _ (λ end has. ended_limit _ c.args.site.replica _ _ c.args.site.tasks.items end.journal end.outputs.items begun.limit_is
    (has c.args.site.replica (record { site_is = sym begun.base.site; names_are = sym begun.base.names; base_is = begun.base }))) c.run_site.ensures
