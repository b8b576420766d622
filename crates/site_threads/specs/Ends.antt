-- What sites end with whose tasks are done (this project's own).
use Rattle.std.specs.Prelude.{ℕ, ◌≡◌, List, Some, slice_get}
use Rattle.replica.specs.Deeds.{IsNew}
use Rattle.replica.specs.Site.{IsSameSite, SiteState}
use Rattle.site_desk.specs.Passes.{PassState, shares_of}
use Rattle.site_journal.specs.Journals.{IsOfSite, JournalState}
use Rattle.site_threads.specs.Tasks.{AreDone}
use Rattle.site_threads.specs.declared.site_tasks.SiteOutput.{SiteOutput}
use Rattle.site_threads.specs.declared.site_tasks.SiteTasks.{SiteTasks}

-- the site that began as `replica` has done `tasks`, and they gave `outputs`: its journal has as many
-- steps as their passes have counted, and at most `limit` of them stand in it; where no step was
-- dropped, its base says what `replica` says, and is new if that is
pub record HasEnded {T O : Type 0} (Gives : T → ℕ → List (List ℕ) → PassState → O → PassState → Type 0) (replica : SiteState) (limit : ℕ) (tasks : List T) (journal : JournalState) (outputs : List O) : Type 0 where
  pub own_site : IsOfSite replica.site replica.names journal
  pub limit_is : journal.limit ≡ limit
  pub begun : journal.start ≡ 0 → IsSameSite replica journal.base
  pub new : IsNew replica → journal.start ≡ 0 → IsNew journal.base
  pub passes : List PassState
  pub done : AreDone Gives replica.site replica.names tasks passes outputs
  pub count : journal.count ≡ shares_of passes

-- the site at each place of `sites` has ended with the output at that place
abbrev pub HaveEnded : {S T O : Type 0} → (T → ℕ → List (List ℕ) → PassState → O → PassState → Type 0) → ℕ → List (SiteTasks S T) → List (SiteOutput O) → Type 0
HaveEnded {S = S} {T = T} {O = O} Gives limit sites ends = (place : ℕ) (site : SiteTasks S T) (end : SiteOutput O) → slice_get sites place ≡ Some site → slice_get ends place ≡ Some end
    → HasEnded Gives site.replica limit site.tasks.items end.journal end.outputs.items
