use Rattle.std.proofs.Common.{subst}
use Rattle.replica.proofs.SameSites.{site_turned}
use Rattle.replica.specs.Site.{IsSameSite, SiteState}
use Rattle.tests_of_stores.proofs.desk_trials.base_of.Goals as goal

pub returns : goal.returns
returns g c = subst (λ (s : SiteState). IsSameSite c.in-Ok.base s) c.base.ensures (site_turned c.base.result.now c.in-Ok.base c.in-Ok.ensures.same)
