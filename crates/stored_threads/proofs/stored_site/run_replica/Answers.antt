use Rattle.std.proofs.Common.{sym, subst}
use Rattle.std.proofs.lemmas.Result.{IfOk-weaker}
use Rattle.replica.specs.Site.{SiteState}
use Rattle.replica.proofs.SameSites.{site_through}
use Rattle.site_journal.specs.Journals.{IsNewJournal}
use Rattle.stored_threads.proofs.StoreLemmas.{stored_limit}
use Rattle.stored_threads.proofs.stored_site.run_replica.Goals as goal

-- the store begins as the journal's base
pub run_journal-requires-clause-store : goal.run_journal-requires-clause-store
run_journal-requires-clause-store g c = λ _ _. let new = c.into_parts-replica.ensures.new in record {
  holds = new.holds;
  keeps = new.keeps;
  begun_is = site_through _ _ _ new.begun_is c.in-Ok.ensures.base;
}

-- the ledger is that of the site
pub returns-in-Ok : goal.returns-in-Ok
returns-in-Ok g c =
    let replica = c.args.site.resumed.replica in
    let begun = subst (λ (r : SiteState). IsNewJournal r c.args.limit c.in-Ok.journal) c.into_parts-replica.ensures.replica c.in-Ok.ensures in
    IfOk-weaker c.run_journal.result _ _ (λ end has. stored_limit _ _ _ _ replica _ _ c.args.site.tasks.items end begun.limit_is
    (has replica (record { site_is = sym begun.base.site; names_are = sym begun.base.names; base_is = begun.base }))) c.run_journal.ensures
