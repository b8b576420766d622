use Rattle.std.proofs.Common.{◌∙◌}
use Rattle.site_desk.proofs.DoneDeeds.{cut_of}
use Rattle.site_desk.proofs.guarded_journal.GuardedJournal.cut.Goals as goal

pub returns-clause-cut : goal.returns-clause-cut
returns-clause-cut g c = let reported = cut_of c.in_ok-step.step.deed c.in_ok-step.ensures.done in (reported.0, c.receipt_of.ensures.deed ∙ reported.1)
