use Rattle.replica.proofs.SameSites.{equal_site, site_itself, site_through, site_turned, unchanged_site}
use Rattle.replica.proofs.laws.to_say_the_same_is_an_equivalence.Goals as goal

pub returns : goal.returns
returns c = record { reflexive = site_itself; symmetric = site_turned; transitive = site_through; unchanged = unchanged_site; equal = equal_site }
