use Rattle.std.proofs.Common.{subst, sym}
use Rattle.replica.specs.Site.{IsSameSite, SiteState}
use Rattle.tests_of_stores.proofs.desk_trials.assert_holds.Goals as goal

pub new-requires-2-clause-begun : goal.new-requires-2-clause-begun
new-requires-2-clause-begun g c = subst (λ (s : SiteState). IsSameSite s g.L.SiteLedger.base) (sym c.new-store.ensures.base)
    (subst (λ (s : SiteState). IsSameSite c.base_of-base.result s) c.requires.base c.base_of-base.ensures)
