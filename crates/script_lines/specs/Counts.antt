-- The number of sites of a script.
use Rattle.std.specs.Prelude.{ℕ, ◌<◌, ◌≤◌}
use Rattle.dots.specs.declared.limits.TheConstants.{SITES}

-- a script may have `sites` sites: 1 to 64
abbrev pub IsSiteCount : ℕ → Type 0
IsSiteCount sites = (0 < sites) × (sites ≤ SITES)
