use Rattle.std.proofs.Common.{subst, sym}
use Rattle.site_journal.specs.Journals.{IsJournal}
use Rattle.site_journal.specs.declared.step.StepDeed.TheVariants.{Asked}
use Rattle.site_desk.specs.Guarded.{IsGuarded}
use Rattle.site_desk.proofs.DoneDeeds.{done_last}
use Rattle.site_desk.proofs.GuardedSteps.{guarded_added}
use Rattle.site_desk.proofs.guarded_journal.GuardedJournal.answer.Goals as goal

-- the book has counted the step
pub invariant_of-self-2 : goal.invariant_of-self-2
invariant_of-self-2 g c = let l = g.L.SiteLedger in
    subst (λ total. IsGuarded l.site l.names l.limit l.base total c.answer.new.self) (sym c.count.ensures.total)
    (guarded_added l.site l.names l.limit l.base c.self.inside.book.total c.self.inside.journal (subst IsJournal (sym c.self.view_is) c.in_ok-len.ensures.journal) c.self.invariant c.answer.new.self (record { pass = c.ordinal.result; deed = Asked c.args.asked.now c.in_ok-answer.answer }) c.in_ok-answer.ensures.added)

pub returns-clause-done : goal.returns-clause-done
returns-clause-done g c = done_last c.args.pass.now c.count.new.self c.in_ok-len.len _ c.count.ensures.pass (rw c.in_ok-len.ensures.len c.in_ok-len.ensures.seen)
