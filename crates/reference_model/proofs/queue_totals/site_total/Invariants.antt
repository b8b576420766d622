use Rattle.std.proofs.Common.{◌≡◌, ◌≤◌, max, drop}
use Rattle.operations.specs.Counts.{site_total}
use Rattle.reference_model.specs.Plain.{knowledge_of}
use Rattle.reference_model.proofs.queue_totals.site_total.Given as goal

-- the greatest so far, and of what is left, is that of all
abbrev pub invariant-loop-operation : goal.invariant-loop-operation
invariant-loop-operation l = record {
  greatest : max l.total (site_total (knowledge_of (drop l.operation-index l.operations)) l.site l.queue l.calls) ≡ site_total (knowledge_of l.operations) l.site l.queue l.calls;
  limit : l.total ≤ 1000000000;
}
