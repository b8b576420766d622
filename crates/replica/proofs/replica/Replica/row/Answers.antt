use Rattle.std.proofs.Common.{ap, ◌∙◌}
use Rattle.operations.specs.Rows.{row_of}
use Rattle.member_orset.specs.Members.{dot_view_of}
use Rattle.replica.proofs.ShownSites.{row_shown}
use Rattle.replica.proofs.replica.Replica.row.Goals as goal

-- src/replica.rt:130:5
pub returns-clause-meaning : goal.returns-clause-meaning
returns-clause-meaning c = λ s stands.
    c.row.ensures ∙ ap (λ m. row_of (dot_view_of m) c.args.member.now) c.members.ensures.value
    ∙ ap (λ r. row_of (dot_view_of r.state.members) c.args.member.now) c.self.view_is ∙ row_shown c.args.self.now s stands c.args.member.now
