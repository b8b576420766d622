use Rattle.site_desk.proofs.GuardedSteps.{guarded_checkpointed}
use Rattle.site_desk.proofs.guarded_journal.GuardedJournal.checkpoint.Goals as goal

-- the steps were dropped, or nothing was changed
pub invariant_of-self : goal.invariant_of-self
invariant_of-self g c = guarded_checkpointed g.L.SiteLedger.site g.L.SiteLedger.names g.L.SiteLedger.limit g.L.SiteLedger.base c.self.inside.book.total c.self.inside.journal
    c.checkpoint.ensures.journal c.self.invariant c.checkpoint.new.self c.checkpoint.result c.checkpoint.ensures.dropped c.checkpoint.ensures.unchanged
