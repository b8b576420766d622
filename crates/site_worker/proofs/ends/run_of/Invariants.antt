use Rattle.std.proofs.Common.{◌≡◌, ◌+◌, ◌++◌, ◌≤◌, List, Some, map, slice_get, vec_capacity, vec_len}
use Rattle.site_worker.specs.declared.tasks.WorkOutput.{WorkOutput}
use Rattle.site_worker.specs.Runs.{first_fault}
use Rattle.site_worker.proofs.ends.run_of.Given as goal

-- the receipts, fault and gate are those of the outcomes behind the ones that are left
abbrev pub invariant-loop-output : goal.invariant-loop-output
invariant-loop-output g l = (vec_len l.receipts + vec_len l.outputs ≡ vec_len l.fn.end.outputs)
    × (vec_len l.fn.end.outputs ≤ vec_capacity l.receipts)
    × ((behind : List (WorkOutput g.row.G.Denot))
    × (l.fn.end.outputs.items ≡ l.outputs.items ++ behind)
    × (map (λ list. list.items) l.receipts.items ≡ map (λ (output : WorkOutput g.row.G.Denot). output.receipts.items) behind)
    × (l.fault ≡ first_fault (map (λ (output : WorkOutput g.row.G.Denot). output.fault) behind))
    × ((output : WorkOutput g.row.G.Denot) (gate : g.row.G.Denot) → slice_get behind 0 ≡ Some output → output.gate ≡ Some gate → l.gate ≡ Some gate))

abbrev pub decreases-loop-output : goal.decreases-loop-output
decreases-loop-output g l = vec_len l.outputs
