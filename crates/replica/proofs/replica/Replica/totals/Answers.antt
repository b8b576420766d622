use Rattle.std.proofs.Common.{ap, ◌∙◌}
use Rattle.operations.specs.Totals.{sum_of}
use Rattle.replica.proofs.ShownSites.{completed_shown, abandoned_shown}
use Rattle.replica.proofs.replica.Replica.totals.Goals as goal

pub returns-clause-completed : goal.returns-clause-completed
returns-clause-completed c = λ s stands.
    ap (λ t. t.completed) (c.sum.ensures.value ∙ ap (λ t. sum_of t.entries c.args.queue) c.totals.ensures ∙ ap (λ r. sum_of r.state.totals.entries c.args.queue) c.self.view_is)
    ∙ completed_shown c.args.self.now s stands c.args.queue

-- src/replica.rt:148:5
pub returns-clause-abandoned : goal.returns-clause-abandoned
returns-clause-abandoned c = λ s stands.
    ap (λ t. t.abandoned) (c.sum.ensures.value ∙ ap (λ t. sum_of t.entries c.args.queue) c.totals.ensures ∙ ap (λ r. sum_of r.state.totals.entries c.args.queue) c.self.view_is)
    ∙ abandoned_shown c.args.self.now s stands c.args.queue
