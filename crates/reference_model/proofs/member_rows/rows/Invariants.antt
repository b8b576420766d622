use Rattle.std.proofs.Common.{◌≡◌, ◌++◌, drop, map as each}
use Rattle.std.specs.List.{filter_map}
use Rattle.operations.specs.Views.{listed_row_view}
use Rattle.reference_model.specs.Plain.{knowledge_of}
use Rattle.reference_model.proofs.RowSteps.{row_at}
use Rattle.reference_model.proofs.member_rows.rows.Given as goal

-- what is listed, and the rows of the interfaces that are left, are the rows of all
abbrev pub invariant-loop-interface : goal.invariant-loop-interface
invariant-loop-interface l =
    each listed_row_view l.listed.items ++ filter_map (row_at (knowledge_of l.operations) l.queue) (each (λ i. i.now) (drop l.interface-index l.interface-items))
    ≡ filter_map (row_at (knowledge_of l.operations) l.queue) (each (λ i. i.now) l.interface-items)
