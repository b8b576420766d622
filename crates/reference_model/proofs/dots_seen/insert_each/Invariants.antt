use Rattle.std.proofs.Common.{◌≡◌, ◌||◌, drop}
use Rattle.std.specs.List.{list_any}
use Rattle.dots.specs.Values.{Dot}
use Rattle.operations.specs.Knowledge.{is_dot}
use Rattle.reference_model.proofs.dots_seen.insert_each.Given as goal

-- what is held, and what is left, are what was held and all that came
abbrev pub invariant-loop-dot : goal.invariant-loop-dot
invariant-loop-dot l = (q : Dot) → (list_any (is_dot q) l.found.keys || list_any (is_dot q) (drop l.dot-index l.dots)) ≡ (list_any (is_dot q) l.initial.found.keys || list_any (is_dot q) l.dots)
