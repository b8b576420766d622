use Rattle.delta.proofs.delta.Delta.prepared.Goals as goal

pub returns-then-has_prepared_members : goal.returns-then-has_prepared_members
returns-then-has_prepared_members c = rw (← c.self.view_is, ← c.other.view_is) (
  λ h. record { members = c.has_prepared_members.ensures.0 c.if-has_prepared_members.true; totals = c.has_prepared_totals.ensures.0 h },
  λ p. c.has_prepared_totals.ensures.1 p.totals,
)
