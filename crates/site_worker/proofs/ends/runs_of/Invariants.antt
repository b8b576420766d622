use Rattle.std.specs.List.{All}
use Rattle.std.proofs.Common.{ℕ, ◌≡◌, ◌+◌, ◌≤◌, Some, slice_get, vec_capacity, vec_len}
use Rattle.launcher.specs.Places.{AtEach}
use Rattle.site_worker.specs.WorkTasks.{FirstHasGate, IsRunOf}
use Rattle.site_worker.specs.declared.ends.TheConstants.{MOST_RUN_PASSES}
use Rattle.site_worker.proofs.ends.runs_of.Given as goal

-- the ends that are left are the first ones, and the runs are those of the others
abbrev pub invariant-loop-end : goal.invariant-loop-end
invariant-loop-end g l = (vec_len l.runs + vec_len l.ends ≡ vec_len l.fn.ends)
    × (vec_len l.fn.ends ≤ vec_capacity l.runs)
    × (vec_len l.ends ≡ vec_len l.receipts)
    × All (λ end. FirstHasGate end.outputs.items) l.ends.items
    × All (λ end. vec_len end.outputs ≤ MOST_RUN_PASSES) l.ends.items
    × All (λ lists. vec_len lists ≡ 0) l.receipts.items
    × All (λ lists. MOST_RUN_PASSES ≤ vec_capacity lists) l.receipts.items
    × AtEach (λ place end. slice_get l.fn.ends.items place ≡ Some end) l.ends.items
    × ((k : ℕ) (run : _) (end : _) → slice_get l.runs.items k ≡ Some run → slice_get l.fn.ends.items (vec_len l.ends + k) ≡ Some end → IsRunOf end run)

abbrev pub decreases-loop-end : goal.decreases-loop-end
decreases-loop-end g l = vec_len l.ends
