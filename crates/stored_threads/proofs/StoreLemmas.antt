-- Sites with stores that have ended.
use Rattle.std.proofs.Common.{◌≡◌, ◌++◌, ℕ, List, None, Option, Some, IfSome, subst}
use Rattle.replica.proofs.SameSites.{site_through, site_turned}
use Rattle.replica.specs.Site.{IsSameSite, SiteState}
use Rattle.site_journal.specs.declared.step.Step.{Step}
use Rattle.stored_desk.proofs.Recording.{lead_from}
use Rattle.stored_desk.specs.declared.step_store.CommitFault.{CommitFault}
use Rattle.site_desk.specs.Passes.{PassState}
use Rattle.stored_threads.specs.StoredEnds.{HasStoredEnd, IsStoreOf}
use Rattle.stored_threads.specs.declared.stored_site_tasks.StoredSiteOutput.{StoredSiteOutput}

-- the store of a site, by another state that says the same
pub store_of_same : {D : Type 0} (Holds : D → List Step → Type 0) (Keeps : D → List Step → List Step → Type 0) (begun : D → SiteState) (base replica : SiteState) (fault : Option CommitFault) (store : D) → IsSameSite replica base
    → IsStoreOf Holds Keeps begun base fault store → IsStoreOf Holds Keeps begun replica fault store
store_of_same Holds Keeps begun base replica fault store same is = record {
  begun_is = site_through (begun store) base replica is.begun_is (site_turned replica base same);
  list = is.list;
  more = is.more;
  keeps = is.keeps;
  legal = record { state = is.legal.state; lead = lead_from replica base is.legal.state (is.list ++ is.more) same is.legal.lead };
  exact = is.exact;
}

-- also where it may not have come back
pub if_store_same : {D : Type 0} (Holds : D → List Step → Type 0) (Keeps : D → List Step → List Step → Type 0) (begun : D → SiteState) (base replica : SiteState) (fault : Option CommitFault) (store : Option D) → IsSameSite replica base
    → IfSome store (λ s. IsStoreOf Holds Keeps begun base fault s) → IfSome store (λ s. IsStoreOf Holds Keeps begun replica fault s)
if_store_same Holds Keeps begun base replica fault None same is = is
if_store_same Holds Keeps begun base replica fault (Some store) same is = store_of_same Holds Keeps begun base replica fault store same is

-- the limit of a journal by another name
pub stored_limit : {D T O : Type 0} (Gives : T → ℕ → List (List ℕ) → PassState → O → PassState → Type 0) (Holds : D → List Step → Type 0) (Keeps : D → List Step → List Step → Type 0) (begun : D → SiteState) (replica : SiteState) (limit other : ℕ) (tasks : List T) (end : StoredSiteOutput D O) → limit ≡ other
    → HasStoredEnd Gives Holds Keeps begun replica limit tasks end → HasStoredEnd Gives Holds Keeps begun replica other tasks end
stored_limit Gives Holds Keeps begun replica limit other tasks end is ended = subst (λ n. HasStoredEnd Gives Holds Keeps begun replica n tasks end) is ended
