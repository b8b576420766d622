-- Sites that go on over their stores (this project's own).
use Rattle.std.specs.Prelude.{List, [], refl}
use Rattle.std.specs.Coded.{Coded, code_by, coded×}
use Rattle.replica.specs.Site.{IsSameSite, SiteState, site_code}
use Rattle.site_journal.specs.declared.step.Step.{Step}

-- what contracts see of a site that goes on over its store: the site, and the store
pub record ResumedState (D : Type 0) : Type 0 where
  pub replica : SiteState
  pub store : D

-- a site and its store are stored as a pair
abbrev pub resumed_code : {D : Type 0} → Coded D → Coded (ResumedState D)
resumed_code {D} store = code_by (SiteState × D) (coded× site_code store) (λ s. (s.replica, s.store)) (λ p. record { replica = p.0; store = p.1 }) (λ _. refl)

-- `store` has no step since this start, also after a crash; it begins as a site in state `site`
pub record IsNewStore {D : Type 0} (Holds : D → List Step → Type 0) (Keeps : D → List Step → List Step → Type 0) (begun : D → SiteState) (site : SiteState) (store : D) : Type 0 where
  pub holds : Holds store []
  pub keeps : Keeps store [] []
  pub begun_is : IsSameSite (begun store) site
