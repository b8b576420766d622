use Rattle.std.proofs.Common.{◌≡◌, ◌+◌, ◌≤◌, ℕ, List, length, vec_capacity, vec_len}
use Rattle.launcher.specs.Ends.{HaveAllEnded}
use Rattle.launcher.specs.Places.{AtEach}
use Rattle.launcher.specs.Promises.{IsEndPromisedAt}
use Rattle.launcher.proofs.sites.join_sites.Given as goal

-- the ends so far are as they were promised, and the threads that are left promise the others
abbrev pub invariant-loop-site : goal.invariant-loop-site
invariant-loop-site g l = (vec_len l.ends + vec_len l.sites ≡ vec_len l.fn.sites)
    × (vec_len l.fn.sites ≤ vec_capacity l.ends)
    × ((limit : ℕ) (all : List g.row.X.Denot) → length all ≡ vec_len l.fn.sites → AtEach (λ k site. IsEndPromisedAt limit all k site.promise) l.fn.sites.items
    → AtEach (λ k site. IsEndPromisedAt limit all k site.promise) l.sites.items
    × HaveAllEnded g.X.Launch.ends limit all l.ends.items)

abbrev pub decreases-loop-site : goal.decreases-loop-site
decreases-loop-site g l = vec_len l.sites
