use Rattle.std.proofs.Common.{◌≡◌, ◌*◌, ◌≤◌}
use Rattle.operations.specs.Totals.{sum_below}
use Rattle.operations.specs.Counts.{site_total}
use Rattle.reference_model.specs.Plain.{knowledge_of}
use Rattle.reference_model.proofs.queue_totals.queue_total.Given as goal

-- the sum over the sites so far
abbrev pub invariant-loop-site : goal.invariant-loop-site
invariant-loop-site l = record {
  so_far : l.sum ≡ sum_below l.site (λ site. site_total (knowledge_of l.operations) site l.queue l.calls);
  few : l.sum ≤ 1000000000 * l.site;
}
