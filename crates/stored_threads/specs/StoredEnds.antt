-- What sites with a store end with whose tasks are done (this project's own).
use Rattle.std.specs.Prelude.{ℕ, ◌≡◌, ◌++◌, [], IfSome, List, None, Option, Some, slice_get}
use Rattle.replica.specs.Site.{IsSameSite, SiteState}
use Rattle.site_desk.specs.Passes.{PassState}
use Rattle.site_journal.specs.declared.step.Step.{Step}
use Rattle.site_threads.specs.Ends.{HasEnded}
use Rattle.stored_desk.specs.Recorded.{IsLegalHistory}
use Rattle.stored_desk.specs.declared.step_store.CommitFault.{CommitFault}
use Rattle.stored_desk.specs.declared.step_store.CommitFault.TheVariants.{Other}
use Rattle.stored_threads.specs.declared.stored_site_tasks.StoredSiteOutput.{StoredSiteOutput}
use Rattle.stored_threads.specs.declared.stored_site_tasks.StoredSiteTasks.{StoredSiteTasks}

-- the store of a site that began as `replica` has come back: a crash leaves these steps, or these and all of `more`, which a site that
-- began so can do one after another; where there is no fault, a crash leaves just these, and the store can take more
pub record IsStoreOf {D : Type 0} (Holds : D → List Step → Type 0) (Keeps : D → List Step → List Step → Type 0) (begun : D → SiteState) (replica : SiteState) (fault : Option CommitFault) (store : D) : Type 0 where
  pub begun_is : IsSameSite (begun store) replica
  pub list : List Step
  pub more : List Step
  pub keeps : Keeps store list more
  pub legal : IsLegalHistory replica (list ++ more)
  pub exact : fault ≡ None → Holds store list × Keeps store list []

-- the site that began as `replica` has done `tasks`, as a site without a store, and its store, if it
-- came back, is its own; if it didn't, there is a fault
pub record HasStoredEnd {D T O : Type 0} (Gives : T → ℕ → List (List ℕ) → PassState → O → PassState → Type 0) (Holds : D → List Step → Type 0) (Keeps : D → List Step → List Step → Type 0) (begun : D → SiteState) (replica : SiteState) (limit : ℕ) (tasks : List T) (end : StoredSiteOutput D O) : Type 0 where
  pub ended : HasEnded Gives replica limit tasks end.journal end.outputs.items
  pub stored : IfSome end.store (λ store. IsStoreOf Holds Keeps begun replica end.fault store)
  pub lost : end.store ≡ None → end.fault ≡ Some Other

-- the site at each place of `sites` has ended with the output at that place
abbrev pub HaveStoredEnds : {D S T Group Base O : Type 0} {ghosts : _} → (T → ℕ → List (List ℕ) → PassState → O → PassState → Type 0) → (D → List Step → Type 0) → (D → List Step → List Step → Type 0) → (D → SiteState) → ℕ → List (StoredSiteTasks D S T Group Base ghosts) → List (StoredSiteOutput D O) → Type 0
HaveStoredEnds {D} {S} {T} {Group} {Base} {O} {ghosts} Gives Holds Keeps begun limit sites ends = (place : ℕ) (site : StoredSiteTasks D S T Group Base ghosts) (end : StoredSiteOutput D O) → slice_get sites place ≡ Some site → slice_get ends place ≡ Some end
    → HasStoredEnd Gives Holds Keeps begun site.resumed.replica limit site.tasks.items end
