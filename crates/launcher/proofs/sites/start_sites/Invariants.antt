use Rattle.std.specs.List.{All}
use Rattle.std.proofs.Common.{◌≡◌, ◌+◌, ◌≤◌, Some, slice_get, vec_capacity, vec_len}
use Rattle.launcher.specs.Places.{AtEach}
use Rattle.launcher.specs.Promises.{IsEndPromisedAt}
use Rattle.launcher.proofs.sites.start_sites.Given as goal

-- the sites that are left are the first ones, and the threads promise the others' ends
abbrev pub invariant-loop-site : goal.invariant-loop-site
invariant-loop-site g l = (vec_len l.sites + vec_len l.all ≡ vec_len l.fn.all)
    × (vec_len l.fn.all ≤ vec_capacity l.sites)
    × All (λ site. goal.F-pre g l.fn.run site) l.all.items
    × AtEach (λ k site. IsEndPromisedAt l.fn.limit l.fn.all.items k site.promise) l.sites.items
    × AtEach (λ place site. slice_get l.fn.all.items place ≡ Some site) l.all.items

abbrev pub decreases-loop-site : goal.decreases-loop-site
decreases-loop-site g l = vec_len l.all
