use Rattle.std.proofs.Common.{◌≡◌}
use Rattle.pass_desk.proofs.pass_desk.answer_with_room.Given as goal

-- no try has changed the pass
abbrev pub invariant-loop : goal.invariant-loop
invariant-loop g l = l.pass ≡ l.initial.pass
