use Rattle.std.proofs.Common.{◌≡◌, ◌+◌, ◌≤◌, Some, slice_get, vec_capacity, vec_len}
use Rattle.launcher.specs.Places.{AtEach}
use Rattle.server.specs.Tasks.{IsNewSite}
use Rattle.server.specs.declared.ready_site.ReadySite.{ReadySite}
use Rattle.server.proofs.serving.new_sites.Given as goal

-- what is left is ready for the first sites, and the others are made
abbrev pub invariant-loop-own : goal.invariant-loop-own
invariant-loop-own l = (vec_len l.sites + vec_len l.ready ≡ vec_len l.fn.ready)
    × (vec_len l.fn.ready ≤ vec_capacity l.sites)
    × AtEach (λ place own. slice_get l.fn.ready.items place ≡ Some own) l.ready.items
    × AtEach (λ k site. (own : ReadySite) × (slice_get l.fn.ready.items (vec_len l.ready + k) ≡ Some own) × IsNewSite l.list own site) l.sites.items

abbrev pub decreases-loop-own : goal.decreases-loop-own
decreases-loop-own l = vec_len l.ready
