use Rattle.std.specs.List.{All}
use Rattle.std.proofs.Common.{◌≡◌, ◌+◌, ◌≤◌, Some, slice_get, vec_capacity, vec_len}
use Rattle.launcher.specs.Places.{AtEach}
use Rattle.server.specs.Tasks.{IsReady}
use Rattle.server.proofs.preparing.sites_with.Given as goal

-- the listeners that are left are the first ones, with their links, and the sites are those of the others
abbrev pub invariant-loop-listener : goal.invariant-loop-listener
invariant-loop-listener l = (vec_len l.sites + vec_len l.listeners ≡ vec_len l.fn.listeners)
    × (vec_len l.fn.listeners ≤ vec_capacity l.sites)
    × (vec_len l.links.to ≡ vec_len l.listeners)
    × (vec_len l.links.from ≡ vec_len l.listeners)
    × All (λ from. vec_len from + 1 ≡ vec_len l.fn.listeners) l.links.from.items
    × AtEach (λ place to. slice_get l.fn.links.to.items place ≡ Some to) l.links.to.items
    × AtEach (λ place from. slice_get l.fn.links.from.items place ≡ Some from) l.links.from.items
    × AtEach (λ k site. IsReady (l.clients.session.now.places + 1) l.fn.links (vec_len l.listeners + k) site) l.sites.items

abbrev pub decreases-loop-listener : goal.decreases-loop-listener
decreases-loop-listener l = vec_len l.listeners
