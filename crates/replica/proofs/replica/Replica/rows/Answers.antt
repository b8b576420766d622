use Rattle.std.proofs.Common.{ap, ◌∙◌}
use Rattle.operations.specs.Rows.{rows_of}
use Rattle.member_orset.specs.Members.{dot_view_of}
use Rattle.replica.proofs.ShownSites.{rows_shown}
use Rattle.replica.proofs.replica.Replica.rows.Goals as goal

-- src/replica.rt:139:5
pub returns-clause-meaning : goal.returns-clause-meaning
returns-clause-meaning c = λ s stands.
    c.rows.ensures ∙ ap (λ m. rows_of (dot_view_of m) c.args.queue) c.members.ensures.value
    ∙ ap (λ r. rows_of (dot_view_of r.state.members) c.args.queue) c.self.view_is ∙ rows_shown c.args.self.now s stands c.args.queue
