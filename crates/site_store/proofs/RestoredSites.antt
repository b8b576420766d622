-- The site that is restored of the rows that a database lists.
use Rattle.std.proofs.Common.{◌≡◌, ◌≢◌, ◌<◌, ◌⊎◌, inl, inr, ℕ, List, [], ◌∷◌, sym, ap, ◌∙◌, subst, arith}
use Rattle.dots.specs.declared.limits.TheConstants.{MOST_COUNT}
use Rattle.sqlite.specs.Order.{Row}
use Rattle.replica.specs.Site.{IsSameSite, SiteState}
use Rattle.stored_steps.specs.declared.base.StoredBase.{StoredBase}
use Rattle.stored_steps.specs.declared.restored_site.RestoredSite.{RestoredSite}
use Rattle.stored_steps.specs.Bases.{IsOfBase}
use Rattle.stored_steps.specs.Restoring.{IsRestoredSite}
use Rattle.stored_steps.specs.declared.store_fault.StoreFault.{StoreFault}
use Rattle.stored_steps.specs.RowsLead.{MakeSite, RowsLead}
use Rattle.stored_steps.specs.StoreFaults.{IsOutOfRoom}
use Rattle.stored_steps.specs.Stored.{Stored}
use Rattle.stored_steps.proofs.RestoringLaws.{same_site_again}
use Rattle.site_store.specs.declared.open_fault.OpenFault.{OpenFault}
use Rattle.site_store.specs.OpenFaults.{site_fault}
use Rattle.site_store.specs.Restored.{IsOfRows}
use Rattle.site_store.specs.Steps.{Lists}
use Rattle.site_store.proofs.RowLemmas.{lists_once}

some_row : (row : Stored) (rows : List Stored) → row ∷ rows ≢ []
some_row row rows e = cc

-- what is restored of the rows that are listed is the site that they led to
listed_site : (rows : List Row) (first at : ℕ) (base : StoredBase) (row : Stored) (steps list : List Stored) (site : SiteState) (found : RestoredSite) → IsOfBase base row → RowsLead base.replica steps site
    → Lists rows first (row ∷ steps) → Lists rows at list → IsRestoredSite list found → IsSameSite site found.journal.replica
listed_site rows first at base row steps list site found of led wrote lists is =
    let same = (lists_once rows first at (row ∷ steps) list wrote lists (some_row row steps)).1 in
    same_site_again base row steps site found of led (subst (λ (l : List Stored). IsRestoredSite l found) (sym same) is)

-- be it the one list or the other
pub either_site : (listed : List Row) (first at place : ℕ) (base other : StoredBase) (row other_row : Stored) (rows others list : List Stored) (site later : SiteState) (found : RestoredSite) → IsOfBase base row
    → RowsLead base.replica rows site → IsOfBase other other_row → RowsLead other.replica others later → Lists listed place list → IsRestoredSite list found
    → Lists listed first (row ∷ rows) ⊎ Lists listed at (other_row ∷ others) → IsSameSite site found.journal.replica ⊎ IsSameSite later found.journal.replica
either_site listed first at place base other row other_row rows others list site later found of led too on lists is (inl wrote) = inl (listed_site listed first place base row rows list site found of led wrote lists is)
either_site listed first at place base other row other_row rows others list site later found of led too on lists is (inr wrote) = inr (listed_site listed at place other other_row others list later found too on wrote lists is)

-- rows that make a site are the only ones that a table lists
pub made_once : (site : ℕ) (names : List (List ℕ)) (table : List Row) (first at : ℕ) (rows list : List Stored) → MakeSite site names rows → Lists table first rows → Lists table at list → rows ≡ list
made_once site names table first at rows list makes wrote lists =
    (lists_once table first at rows list wrote lists (λ none. some_row makes.first makes.rest (sym makes.rows_are ∙ none))).1

-- a fault that doesn't lie in what the rows say refuses none that are few enough
pub not_of_rows : (fault : StoreFault) (count : ℕ) (given : OpenFault) → given ≡ site_fault fault → IsOutOfRoom count fault → count < MOST_COUNT → IsOfRows given → ⊥
not_of_rows fault count given is (inl memory) few of_rows = subst IsOfRows (is ∙ ap site_fault memory) of_rows
not_of_rows fault count given is (inr full) few of_rows = absurd (omega (arith, full.1, few))
