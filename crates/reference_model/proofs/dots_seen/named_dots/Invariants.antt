use Rattle.std.proofs.Common.{◌≡◌, ◌||◌, drop}
use Rattle.std.specs.List.{list_any}
use Rattle.dots.specs.Values.{Dot}
use Rattle.operations.specs.Knowledge.{is_dot, is_named}
use Rattle.reference_model.specs.Plain.{knowledge_of}
use Rattle.reference_model.proofs.dots_seen.named_dots.Given as goal

-- what is held, and what is left to be named, are all that is named
abbrev pub invariant-loop-operation : goal.invariant-loop-operation
invariant-loop-operation l = (q : Dot) → (list_any (is_dot q) l.found.keys || is_named (knowledge_of (drop l.operation-index l.operations)) q) ≡ is_named (knowledge_of l.operations) q
