-- What served sites with stores begin with and give in the end (this project's own).
use Rattle.std.specs.Prelude.{ℕ, ◌≡◌, IfSome, List, None, Some, slice_get}
use Rattle.replica.specs.Site.{IsSameSite, SiteState}
use Rattle.site_journal.specs.Journals.{IsOfSite}
use Rattle.site_journal.specs.declared.step.Step.{Step}
use Rattle.stored_desk.specs.declared.step_store.CommitFault.TheVariants.{Other}
use Rattle.stored_threads.specs.ResumedSites.{ResumedState}
use Rattle.stored_threads.specs.StoredEnds.{IsStoreOf}
use Rattle.stored_threads.specs.declared.stored_site_tasks.StoredSiteOutput.{StoredSiteOutput}
use Rattle.stored_threads.specs.declared.stored_site_tasks.StoredSiteTasks.{StoredSiteTasks}
use Rattle.server.specs.declared.site.TheConstants.{JOURNAL_STEPS}
use Rattle.server.specs.declared.stored_site.StoredSite.{StoredSite}
use Rattle.server.specs.declared.stored_working.StoredSiteTask.{StoredSiteTask}

-- what is launched at this place goes on as the site at this place
abbrev pub IsAtItsPlace : {D Group Base : Type 0} {ghosts : _} → List (ResumedState D) → ℕ → StoredSiteTasks D StoredSite StoredSiteTask Group Base ghosts → Type 0
IsAtItsPlace sites place launched = slice_get sites place ≡ Some launched.resumed

-- the site that began as `replica` has ended: its journal is its own, with no more steps than each
-- journal of a server, and so is its store, if that came back; if it didn't, there is a fault
pub record HasServedEnd {D O : Type 0} (Holds : D → List Step → Type 0) (Keeps : D → List Step → List Step → Type 0) (begun : D → SiteState) (replica : SiteState) (end : StoredSiteOutput D O) : Type 0 where
  pub of_site : IsOfSite replica.site replica.names end.journal
  pub limit : end.journal.limit ≡ JOURNAL_STEPS
  pub begun_is : end.journal.start ≡ 0 → IsSameSite replica end.journal.base
  pub stored : IfSome end.store (λ store. IsStoreOf Holds Keeps begun replica end.fault store)
  pub lost : end.store ≡ None → end.fault ≡ Some Other

-- the site at each place has ended with the output at that place
abbrev pub HaveServedEnds : {D O : Type 0} → (D → List Step → Type 0) → (D → List Step → List Step → Type 0) → (D → SiteState) → List (ResumedState D) → List (StoredSiteOutput D O) → Type 0
HaveServedEnds {D} {O} Holds Keeps begun sites ends = (place : ℕ) (site : ResumedState D) (end : StoredSiteOutput D O) → slice_get sites place ≡ Some site → slice_get ends place ≡ Some end
    → HasServedEnd Holds Keeps begun site.replica end
