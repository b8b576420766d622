use Rattle.std.proofs.Common.{◌≡◌, ℕ, length, slice_get, Some}
use Rattle.replica.specs.Site.{SiteState}
use Rattle.replica.specs.Steps.{new_site}
use Rattle.sites_world.specs.WorldStates.{HasNoneRetired, IsSiteOf}
use Rattle.sites_world.proofs.world.new_sites.Given as goal

-- the sites so far are those of the numbers below
abbrev pub invariant-loop-number : goal.invariant-loop-number
invariant-loop-number l = record {
  count : length l.made.items ≡ l.number;
  each : (site : ℕ) (state : SiteState) → slice_get l.made.items site ≡ Some state → IsSiteOf l.list site state new_site;
  none_retired : (site : ℕ) (state : SiteState) → slice_get l.made.items site ≡ Some state → HasNoneRetired state;
}
