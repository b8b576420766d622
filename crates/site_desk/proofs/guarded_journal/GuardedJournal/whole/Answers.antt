use Rattle.std.proofs.Common.{◌∙◌}
use Rattle.site_desk.proofs.DoneDeeds.{whole_of}
use Rattle.site_desk.proofs.guarded_journal.GuardedJournal.whole.Goals as goal

pub returns-clause-whole : goal.returns-clause-whole
returns-clause-whole g c = let reported = whole_of c.in_ok-step.step.deed c.in_ok-step.ensures.done in (reported.0, c.receipt_of.ensures.deed ∙ reported.1)
