use Rattle.std.proofs.Common.{true≢false, refl, sym, ◌∙◌, subst}
use Rattle.site_journal.specs.Journals.{IsFull}
use Rattle.replica.proofs.SameSites.{unchanged_site}
use Rattle.site_journal.specs.declared.step.StepDeed.TheVariants.{Asked}
use Rattle.site_journal.proofs.Leading.{does, lead_same, one_more}
use Rattle.site_journal.proofs.journaled.Journaled.answer.Goals as goal

-- nothing but room has changed
pub invariant_of-self-in_default-ask_twice : goal.invariant_of-self-in_default-ask_twice
invariant_of-self-in_default-ask_twice c =
    let i = c.self.invariant in
    rw c.reserve_one.ensures.items (record { legal = lead_same _ _ _ _ i.legal (unchanged_site _ _ c.in_default-ask_twice.ensures.err); counted = i.counted; within = i.within; most = i.most; some = i.some; few = i.few })

-- one step more
pub invariant_of-self-2 : goal.invariant_of-self-2
invariant_of-self-2 c =
    let l = does c.self.inside.replica c.ask_twice.new.replica (Asked c.args.asked.now c.in-Ok-ask_twice.kept) c.in-Ok-ask_twice.ensures.asked in
    rw (c.push_reserved.ensures.items, c.reserve_one.ensures.items, c.in-Ok.ensures.same) (one_more _ _ _ c.self.invariant l (λ p. true≢false (sym (c.is_full.ensures.1 (subst IsFull c.self.view_is p)) ∙ c.if-is_full.false)))

pub returns-clause-added : goal.returns-clause-added
returns-clause-added c =
    let l = does c.self.inside.replica c.ask_twice.new.replica (Asked c.args.asked.now c.in-Ok-ask_twice.kept) c.in-Ok-ask_twice.ensures.asked in
    rw (← c.self.view_is, c.push_reserved.ensures.items, c.reserve_one.ensures.items, c.in-Ok.ensures.same, c.in-Ok-ask_twice.ensures.same) (record { base = refl; steps = refl; start = refl; count = refl; limit = refl; done = l })
