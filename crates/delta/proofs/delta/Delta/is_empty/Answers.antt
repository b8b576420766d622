use Rattle.std.proofs.Common.{ap, subst, ◌∙◌}
use Rattle.delta.specs.DeltaStates.{IsEmpty}
use Rattle.delta.proofs.EmptySets.{unknown}
use Rattle.delta.proofs.delta.Delta.is_empty.Goals as goal

pub returns-then-knows_nothing : goal.returns-then-knows_nothing
returns-then-knows_nothing c =
    let nothing = c.knows_nothing.ensures.0 c.if-knows_nothing.true in (
      λ h. subst IsEmpty c.self.view_is (record {
        conditions = unknown c.self.inside.members c.self.invariant nothing;
        known = nothing;
        totals = c.is_empty.ensures.0 h;
      }),
      λ e. c.is_empty.ensures.1 (ap (λ d. d.totals.entries) c.self.view_is ∙ e.totals),
    )

pub returns-else-knows_nothing : goal.returns-else-knows_nothing
returns-else-knows_nothing c = (
  λ h. absurd (cc (c.if-knows_nothing.false, h)),
  λ e. c.knows_nothing.ensures.1 (ap (λ d. d.members.known) c.self.view_is ∙ e.known),
)
