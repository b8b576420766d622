use Rattle.std.proofs.Common.{subst}
use Rattle.site_journal.specs.Journals.{IsRefusedFrame, JournalState}
use Rattle.site_desk.proofs.guarded_journal.GuardedJournal.take.Goals as goal

-- the journal under the lock refuses the frame
pub returns-in-Err-take_decoded-clause-refused : goal.returns-in-Err-take_decoded-clause-refused
returns-in-Err-take_decoded-clause-refused g c = λ fault is.
    subst (λ (j : JournalState). IsRefusedFrame j.replica c.args.decoded fault) c.self.view_is (c.in-Err-take_decoded.ensures.refused fault is)
