use Rattle.std.proofs.Common.{◌≡◌, ◌+◌, ◌≤◌, vec_capacity, vec_len}
use Rattle.server.proofs.stored_working.stored_tasks_of.Given as goal

-- the tasks so far, and those that are left, are all
abbrev pub invariant-loop-task : goal.invariant-loop-task
invariant-loop-task l = (vec_len l.tasks + vec_len l.served ≡ vec_len l.fn.served + 1)
    × (vec_len l.fn.served + 1 ≤ vec_capacity l.tasks)

abbrev pub decreases-loop-task : goal.decreases-loop-task
decreases-loop-task l = vec_len l.served
