use Rattle.std.proofs.Common.{◌≡◌, ◌≤◌, vec_capacity, vec_len}
use Rattle.server.proofs.listening.listen.Given as goal

abbrev pub invariant-loop-site : goal.invariant-loop-site
invariant-loop-site g l = (vec_len l.listeners ≡ l.site) × (l.settings.sites ≤ vec_capacity l.listeners)
