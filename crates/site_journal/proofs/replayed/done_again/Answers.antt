use Rattle.std.proofs.Common.{◌≡◌, subst, rules}
use Rattle.site_journal.specs.declared.step.StepDeed.{StepDeed}
use Rattle.site_journal.specs.declared.step.StepDeed.TheVariants.{Took}
use Rattle.site_journal.specs.Legal.{Leads}
use Rattle.site_journal.proofs.replayed.done_again.Goals as goal

pub returns-in-Took-clause-refused : goal.returns-in-Took-clause-refused
returns-in-Took-clause-refused c can =
    let deed : c.args.step.now.deed ≡ Took c.in-Took.bytes = search rules in
    c.take_again.ensures.refused can.to (subst (λ (d : StepDeed). Leads c.args.journal.now.replica d can.to) deed can.leads)
