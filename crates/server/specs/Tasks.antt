-- What the threads of a site do (this project's own).
use Rattle.std.specs.Prelude.{ℕ, ◌≡◌, ◌+◌, List, [], ◌∷◌, ◌++◌, Some, if◌then◌else◌, length, nat_lt, replicate, reverse, slice_get}
use Rattle.replica.specs.Deeds.{IsNew}
use Rattle.site_links.specs.Links.{Receiving}
use Rattle.site_links.specs.declared.linking.LinkEnds.{LinkEnds}
use Rattle.site_links.specs.declared.linking.SiteLinks.{SiteLinks}
use Rattle.site_threads.specs.declared.site_tasks.SiteTasks.{SiteTasks}
use Rattle.server.specs.declared.ready_site.ReadySite.{ReadySite}
use Rattle.server.specs.declared.site.Site.{Site}
use Rattle.server.specs.declared.working.SiteTask.{SiteTask}
use Rattle.server.specs.declared.working.SiteTask.TheVariants.{Answer, Send, Take}

-- the site that stands at this place among all sites but `own`
abbrev pub peer_at : ℕ → ℕ → ℕ
peer_at own place = if nat_lt place own then place else place + 1

-- a task for each of these links of the site `own`, the last of which comes from the first of the other sites
abbrev pub takes_for : ℕ → List Receiving → List SiteTask
takes_for own [] = []
takes_for own (link ∷ links) = Take (peer_at own (length links)) link ∷ takes_for own links

-- the tasks of the site `own` that has these ends of links: `answering` of them answer, one sends on all of those that send, and one takes
-- from each that receives, the last first
abbrev pub tasks_for : ℕ → ℕ → LinkEnds → List SiteTask
tasks_for own answering links = replicate answering Answer ++ Send links.to ∷ takes_for own (reverse links.from.items)

-- a site stands ready at its place: it has the place for its number, and the tasks of those ends of `links` that are its own, `answering`
-- of which answer
pub record IsReady (answering : ℕ) (links : SiteLinks) (place : ℕ) (site : ReadySite) : Type 0 where
  pub number : site.shared.number ≡ place
  pub ends : LinkEnds
  pub to : slice_get links.to.items place ≡ Some ends.to
  pub from : slice_get links.from.items place ≡ Some ends.from
  pub tasks_are : site.tasks.items ≡ tasks_for place answering ends

-- a site is a new one with the queues `names`, and has what was ready for it
pub record IsNewSite (names : List (List ℕ)) (ready : ReadySite) (site : SiteTasks Site SiteTask) : Type 0 where
  pub site_is : site.replica.site ≡ ready.shared.number
  pub names_are : site.replica.names ≡ names
  pub new : IsNew site.replica
  pub shared_is : site.shared ≡ ready.shared
  pub tasks_are : site.tasks ≡ ready.tasks
