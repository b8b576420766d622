use Rattle.std.proofs.Common.{◌+◌, ◌≤◌, vec_capacity, vec_len}
use Rattle.server.proofs.pumping.outlets_of.Given as goal

-- there is room for the links that are left
abbrev pub invariant-loop-link : goal.invariant-loop-link
invariant-loop-link g l = vec_len l.outlets + vec_len l.links ≤ vec_capacity l.outlets

abbrev pub decreases-loop-link : goal.decreases-loop-link
decreases-loop-link g l = vec_len l.links
