use Rattle.std.proofs.Common.{◌∙◌, sym}
use Rattle.replica.proofs.SameSites.{equal_site}
use Rattle.site_desk.proofs.GuardedSteps.{reached_new}
use Rattle.site_desk.proofs.guarded_journal.GuardedJournal.open.Goals as goal

-- the journal begins from what the ledger says
pub invariant_of-result : goal.invariant_of-result
invariant_of-result g c = record {
  counted = c.requires.begun ∙ sym c.requires.total;
  of_site = c.requires.site;
  limited = c.requires.limit;
  begun = λ none. equal_site g.L.SiteLedger.base c.args.journal.base c.requires.base;
  reached = reached_new g.L.SiteLedger.base c.args.journal c.requires.base c.requires.begun;
}
