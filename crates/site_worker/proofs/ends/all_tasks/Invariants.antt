use Rattle.std.specs.List.{All}
use Rattle.std.proofs.Common.{ℕ, ◌≡◌, ◌+◌, ◌≤◌, Some, slice_get, vec_capacity, vec_len}
use Rattle.launcher.specs.Places.{AtEach}
use Rattle.site_worker.specs.WorkTasks.{IsLaunchOf}
use Rattle.site_worker.proofs.ends.all_tasks.Given as goal

-- the works that are left are the first ones, with their links, and the tasks are those of the others
abbrev pub invariant-loop-work : goal.invariant-loop-work
invariant-loop-work g l = (vec_len l.all + vec_len l.works ≡ vec_len l.fn.works)
    × (vec_len l.fn.works ≤ vec_capacity l.all)
    × (vec_len l.links.to ≡ vec_len l.works)
    × (vec_len l.links.from ≡ vec_len l.works)
    × All (λ from. vec_len from + 1 ≡ vec_len l.fn.works) l.links.from.items
    × AtEach (λ place work. slice_get l.fn.works.items place ≡ Some work) l.works.items
    × ((k : ℕ) (of : _) (work : _) → slice_get l.all.items k ≡ Some of → slice_get l.fn.works.items (vec_len l.works + k) ≡ Some work → IsLaunchOf (vec_len l.fn.works) l.list (vec_len l.works + k) work of)

abbrev pub decreases-loop-work : goal.decreases-loop-work
decreases-loop-work g l = vec_len l.works
