use Rattle.std.proofs.Common.{◌≡◌, ap₂, sym, subst, false, true, ◌∙◌}
use Rattle.site_journal.specs.Journals.{HasAdded}
use Rattle.site_journal.specs.declared.step.Step.{Step}
use Rattle.site_journal.proofs.Replays.{one_deed}
use Rattle.site_journal.proofs.journaled.Journaled.replay.Goals as goal

pub returns-then-is_same-clause-added : goal.returns-then-is_same-clause-added
returns-then-is_same-clause-added c =
    let deed : c.in-Ok.done.deed ≡ c.args.step.now.deed = c.same-is_same.ensures.0 c.if-is_same.true in
    let whole : c.in-Ok.done ≡ c.args.step.now = ap₂ (λ p d. let it : Step = record { pass = p; deed = d } in it) c.in-Ok.ensures.pass deed in
    subst (λ (s : Step). HasAdded c.args.self.now s c.done_again.new.journal) whole c.in-Ok.ensures.added

pub returns-else-is_same-clause-damaged : goal.returns-else-is_same-clause-damaged
returns-else-is_same-clause-damaged c position is can =
    let added = c.in-Ok.ensures.added in
    let deed = one_deed c.args.self.now.replica can.to c.done_again.new.journal.replica c.args.step.now.deed c.in-Ok.done.deed c.in-Ok.ensures.again can.leads added.done in
    let both : true ≡ false = sym (c.same-is_same.ensures.1 (sym deed)) ∙ c.if-is_same.false in cc
