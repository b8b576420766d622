use Rattle.std.proofs.Common.{true≢false, sym, ◌∙◌, subst}
use Rattle.site_journal.specs.Journals.{IsFull}
use Rattle.site_journal.proofs.Leading.{one_more}
use Rattle.site_journal.proofs.journaled.Journaled.whole.Goals as goal

-- one step more
pub invariant_of-self-2 : goal.invariant_of-self-2
invariant_of-self-2 c =
    rw (c.push_reserved.ensures.items, c.reserve_one.ensures.items) (one_more _ _ _ c.self.invariant c.in-Ok.ensures.leads (λ p. true≢false (sym (c.is_full.ensures.1 (subst IsFull c.self.view_is p)) ∙ c.if-is_full.false)))
