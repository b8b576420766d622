use Rattle.std.proofs.Common.{◌≡◌, ◌+◌, ◌++◌, ◌≤◌, replicate, reverse, vec_capacity, vec_len}
use Rattle.server.specs.Tasks.{takes_for, tasks_for}
use Rattle.server.specs.declared.working.SiteTask.TheVariants.{Answer}
use Rattle.server.proofs.working.tasks_of.Given as goal

abbrev pub invariant-loop-i : goal.invariant-loop-i
invariant-loop-i l = (vec_len l.tasks ≡ l._i) × (l.tasks.items ≡ replicate l._i Answer) × (vec_len l.fn.links.from + (l.fn.answering + 1) ≤ vec_capacity l.tasks)

-- the tasks so far, and those of the links that are left, are all
abbrev pub invariant-loop-link : goal.invariant-loop-link
invariant-loop-link l = (vec_len l.tasks + vec_len l.from ≡ vec_len l.fn.links.from + (l.fn.answering + 1))
    × (vec_len l.from ≤ 63)
    × (l.tasks.items ++ takes_for l.fn.own (reverse l.from.items) ≡ tasks_for l.fn.own l.fn.answering l.fn.links)
    × (vec_len l.fn.links.from + (l.fn.answering + 1) ≤ vec_capacity l.tasks)

abbrev pub decreases-loop-link : goal.decreases-loop-link
decreases-loop-link l = vec_len l.from
