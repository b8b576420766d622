use Rattle.std.proofs.Common.{◌≡◌, ◌+◌, ◌*◌, ◌≤◌, ◌++◌, replicate, vec_capacity, vec_len}
use Rattle.linked_site.specs.Tasks.{dialing_tasks, serving_tasks}
use Rattle.linked_site.specs.declared.tasks.LinkedTask.TheVariants.{Answer, Hear}
use Rattle.linked_site.proofs.tasks.tasks_of.Given as goal

abbrev pub invariant-answering : goal.invariant-answering
invariant-answering l = (vec_len l.tasks ≡ l._i) × (l.tasks.items ≡ replicate l._i Answer) × (l.fn.places + 2 * l.fn.peers + 7 ≤ vec_capacity l.tasks)

abbrev pub invariant-dialing : goal.invariant-dialing
invariant-dialing l = (vec_len l.tasks ≡ l.fn.places + 2 + l.place) × (l.tasks.items ≡ serving_tasks l.fn.places ++ dialing_tasks l.place)
    × (l.fn.places + 2 * l.fn.peers + 7 ≤ vec_capacity l.tasks)

abbrev pub invariant-hearing : goal.invariant-hearing
invariant-hearing l = (vec_len l.tasks ≡ l.fn.places + 2 + l.fn.peers + l._i) × (l.tasks.items ≡ serving_tasks l.fn.places ++ (dialing_tasks l.fn.peers ++ replicate l._i Hear))
    × (l.fn.places + 2 * l.fn.peers + 7 ≤ vec_capacity l.tasks)
