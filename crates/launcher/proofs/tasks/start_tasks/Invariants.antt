use Rattle.std.proofs.Common.{◌≡◌, ◌+◌, ◌≤◌, Some, slice_get, vec_capacity, vec_len}
use Rattle.launcher.specs.Places.{AtEach}
use Rattle.launcher.specs.Promises.{IsTaskPromisedAt}
use Rattle.launcher.proofs.tasks.start_tasks.Given as goal

-- the tasks and passes that are left are the first ones, as many of both, and the threads promise the others
abbrev pub invariant-loop-task : goal.invariant-loop-task
invariant-loop-task g l = (vec_len l.passes ≡ vec_len l.tasks)
    × (vec_len l.workers + vec_len l.tasks ≡ vec_len l.fn.given.tasks)
    × (vec_len l.fn.given.tasks ≤ vec_capacity l.workers)
    × AtEach (λ k worker. IsTaskPromisedAt l.fn.given.tasks.items l.fn.given.passes.items k worker.promise) l.workers.items
    × AtEach (λ place task. slice_get l.fn.given.tasks.items place ≡ Some task) l.tasks.items
    × AtEach (λ place pass. slice_get l.fn.given.passes.items place ≡ Some pass) l.passes.items

abbrev pub decreases-loop-task : goal.decreases-loop-task
decreases-loop-task g l = vec_len l.tasks
