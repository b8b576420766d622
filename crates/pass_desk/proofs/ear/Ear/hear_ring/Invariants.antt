use Rattle.std.proofs.Common.{◌≡◌}
use Rattle.pass_desk.proofs.ear.Ear.hear_ring.Given as goal

-- no ring was counted, and the round goes on
abbrev pub invariant-loop : goal.invariant-loop
invariant-loop g l = (goal.iterator-loop g).can_next l.iterator' × (goal.iterator-loop g).is_finite l.iterator'
    × (l.self.rings ≡ l.initial.self.rings) × (l.self.ended ≡ l.initial.self.ended)
