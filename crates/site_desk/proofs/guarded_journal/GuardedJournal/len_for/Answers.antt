use Rattle.std.proofs.Common.{subst}
use Rattle.site_journal.specs.Journals.{JournalState}
use Rattle.site_desk.specs.Deeds.{IsReached}
use Rattle.site_desk.proofs.GuardedSteps.{reached_now}
use Rattle.site_desk.proofs.guarded_journal.GuardedJournal.len_for.Goals as goal

-- the journal's steps follow those that were dropped
pub returns-then-len-seen-clause-reached : goal.returns-then-len-seen-clause-reached
returns-then-len-seen-clause-reached g c = subst (λ (j : JournalState). IsReached g.L.SiteLedger.base j.count j.replica) c.self.view_is
    (reached_now g.L.SiteLedger.base c.self.inside.journal c.len-len.ensures.journal (c.self.invariant.reached c.len-len.ensures.journal))

pub returns-clause-reached : goal.returns-clause-reached
returns-clause-reached g c = subst (λ (j : JournalState). IsReached g.L.SiteLedger.base j.count j.replica) c.self.view_is
    (reached_now g.L.SiteLedger.base c.self.inside.journal c.len-len.ensures.journal (c.self.invariant.reached c.len-len.ensures.journal))
