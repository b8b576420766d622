use Rattle.std.proofs.Common.{◌≡◌, ◌+◌, ◌≤◌, List, length, vec_capacity, vec_len}
use Rattle.launcher.specs.Places.{AtEach}
use Rattle.launcher.specs.Promises.{IsTaskPromisedAt}
use Rattle.launcher.specs.Tasks.{HaveDone}
use Rattle.launcher.proofs.tasks.join_tasks.Given as goal

-- the tasks so far are done, and the threads that are left promise the others
abbrev pub invariant-loop-worker : goal.invariant-loop-worker
invariant-loop-worker g l = (vec_len l.passes + vec_len l.workers ≡ vec_len l.fn.workers)
    × (vec_len l.outputs ≡ vec_len l.passes)
    × (vec_len l.fn.workers ≤ vec_capacity l.passes)
    × (vec_len l.fn.workers ≤ vec_capacity l.outputs)
    × ((tasks : List _) (old : List _) → length tasks ≡ vec_len l.fn.workers → AtEach (λ k worker. IsTaskPromisedAt tasks old k worker.promise) l.fn.workers.items
    → AtEach (λ k worker. IsTaskPromisedAt tasks old k worker.promise) l.workers.items
    × HaveDone g.W.Workplace.does tasks old l.passes.items l.outputs.items)

abbrev pub decreases-loop-worker : goal.decreases-loop-worker
decreases-loop-worker g l = vec_len l.workers
