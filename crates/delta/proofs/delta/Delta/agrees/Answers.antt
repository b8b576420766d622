use Rattle.delta.proofs.delta.Delta.agrees.Goals as goal

pub returns-clause-agree : goal.returns-clause-agree
returns-clause-agree c = rw (← c.self.view_is, ← c.other.view_is) c.agrees.ensures.agree
