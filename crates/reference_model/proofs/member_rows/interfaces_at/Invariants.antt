use Rattle.std.proofs.Common.{◌≡◌, ◌||◌, ℕ, List, drop, map as each}
use Rattle.std.specs.List.{list_any, filter_map}
use Rattle.std.specs.Ordering.{eq_by_cmp}
use Rattle.dots.specs.Orders.{text_cmp}
use Rattle.reference_model.specs.Plain.{knowledge_of}
use Rattle.reference_model.proofs.RowSteps.{interface_at}
use Rattle.reference_model.proofs.member_rows.interfaces_at.Given as goal

-- what is held, and what is left, are all interfaces
abbrev pub invariant-loop-dot : goal.invariant-loop-dot
invariant-loop-dot l = (q : List ℕ)
    → (list_any (eq_by_cmp text_cmp q) (each (λ i. i.now) l.found.keys) || list_any (eq_by_cmp text_cmp q) (filter_map (interface_at (knowledge_of l.operations) l.queue) (drop l.dot-index l.dots)))
    ≡ list_any (eq_by_cmp text_cmp q) (filter_map (interface_at (knowledge_of l.operations) l.queue) l.dots)
