use Rattle.std.proofs.Common.{◌≡◌, drop, option_map}
use Rattle.std.specs.List.{find}
use Rattle.operations.specs.Knowledge.{is_dot}
use Rattle.reference_model.proofs.operation.find_member.Given as goal

-- what is left has the member that all have
abbrev pub invariant-loop-other : goal.invariant-loop-other
invariant-loop-other l = option_map (λ p. p.1) (find (λ p. is_dot l.dot p.0) (drop l.other-index l.dots)) ≡ option_map (λ p. p.1) (find (λ p. is_dot l.dot p.0) l.dots)
