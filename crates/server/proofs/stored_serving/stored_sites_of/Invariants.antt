use Rattle.std.proofs.Common.{◌≡◌, ◌+◌, ◌≤◌, Some, slice_get, vec_capacity, vec_len}
use Rattle.launcher.specs.Places.{AtEach}
use Rattle.server.specs.ServedStores.{IsAtItsPlace}
use Rattle.server.proofs.stored_serving.stored_sites_of.Given as goal

-- the sites that are left are the first ones, with what is ready for them, and the others are launched
abbrev pub invariant-loop-site : goal.invariant-loop-site
invariant-loop-site g l = (vec_len l.sites + vec_len l.resumed ≡ vec_len l.fn.resumed)
    × (vec_len l.fn.resumed ≤ vec_capacity l.sites)
    × (vec_len l.ready ≡ vec_len l.resumed)
    × AtEach (λ place site. slice_get l.fn.resumed.items place ≡ Some site) l.resumed.items
    × AtEach (λ k site. IsAtItsPlace l.fn.resumed.items (vec_len l.resumed + k) site) l.sites.items

abbrev pub decreases-loop-site : goal.decreases-loop-site
decreases-loop-site g l = vec_len l.resumed
