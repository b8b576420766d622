-- Rows that stand for the steps of a site (this project's own).
use Rattle.std.specs.Prelude.{ℕ, ◌≡◌, ◌+◌, ◌-◌, ◌^◌, ◌++◌, List, ◌∷◌, count_by, min, refl}
use Rattle.std.specs.Coded.{Coded, code_by, coded×, coded_ℕ, coded_list}
use Rattle.std.specs.List.{All}
use Rattle.replica.specs.Site.{SiteState, site_code}
use Rattle.site_journal.specs.Legal.{LeadAll}
use Rattle.site_journal.specs.declared.step.Step.{Step}
use Rattle.stored_steps.specs.declared.base.StoredBase.{StoredBase}
use Rattle.stored_steps.specs.declared.restored_site.RestoredSite.{RestoredSite}
use Rattle.stored_steps.specs.Bases.{IsOfBase}
use Rattle.stored_steps.specs.RowsLead.{RowsLead}
use Rattle.stored_steps.specs.StartRows.{is_start}
use Rattle.stored_steps.specs.StepRows.{IsWithinLimits, rows_of}
use Rattle.stored_steps.specs.Stored.{Stored}
use Rattle.stored_desk.specs.Recorded.{IsLegalHistory}

-- Of which site a store is: what the site said before its steps, the bytes that name the store, and how often the site was started over it.
pub record StoreOrigin : Type 0 where
  pub begun : SiteState
  pub name : List ℕ
  pub starts : ℕ

-- an origin is stored as the tuple of its fields
abbrev pub origin_code : Coded StoreOrigin
origin_code =
    code_by (SiteState × (List ℕ × ℕ)) (coded× site_code (coded× (coded_list coded_ℕ) coded_ℕ)) (λ o. (o.begun, (o.name, o.starts))) (λ p. record { begun = p.0; name = p.1.0; starts = p.1.1 }) (λ _. refl)

-- rows are those of steps, which are within the limits of their types
pub record AreRowsOf (rows : List Stored) (steps : List Step) : Type 0 where
  pub are : rows ≡ rows_of steps
  pub within : All IsWithinLimits steps

-- Rows stand for the steps of a site, which it can do: wherever they lead it, the rows lead the base that stands first. The base has the
-- store's name, and its starts and those of the further rows are the store's.
pub record StandForSteps (origin : StoreOrigin) (rows : List Stored) (steps : List Step) : Type 0 where
  pub base : StoredBase
  pub first : Stored
  pub rest : List Stored
  pub rows_are : rows ≡ first ∷ rest
  pub base_is : IsOfBase base first
  pub name : base.name ≡ origin.name
  pub starts : origin.starts ≡ min (base.starts + count_by is_start rest) (2 ^ 64 - 1)
  pub within : All IsWithinLimits steps
  pub legal : IsLegalHistory origin.begun steps
  pub lead : (site : SiteState) → LeadAll origin.begun steps site → RowsLead base.replica rest site

-- A site that was restored is the one that did these steps: they lead what the site said before them to it. Name and starts are the store's.
pub record IsFoundSite (origin : StoreOrigin) (steps : List Step) (found : RestoredSite) : Type 0 where
  pub lead : LeadAll origin.begun steps found.journal.replica
  pub name : found.name ≡ origin.name
  pub starts : found.starts ≡ origin.starts
