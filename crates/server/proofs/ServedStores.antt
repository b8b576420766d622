-- Sites with stores that begin and end.
use Rattle.std.proofs.Common.{◌≡◌, ◌∙◌, ◌<◌, ℕ, List, ap, arith, length, subst, sym}
use Rattle.std.proofs.lemmas.Option.{get_or_from_slice_get, slice_get_within}
use Rattle.replica.specs.Site.{SiteState}
use Rattle.site_desk.specs.Passes.{PassState}
use Rattle.site_journal.specs.declared.step.Step.{Step}
use Rattle.launcher.specs.Places.{AtEach}
use Rattle.stored_threads.specs.ResumedSites.{ResumedState}
use Rattle.stored_threads.specs.StoredEnds.{HaveStoredEnds}
use Rattle.stored_threads.specs.declared.stored_site_tasks.StoredSiteOutput.{StoredSiteOutput}
use Rattle.stored_threads.specs.declared.stored_site_tasks.StoredSiteTasks.{StoredSiteTasks}
use Rattle.server.specs.ServedStores.{HasServedEnd, HaveServedEnds, IsAtItsPlace}
use Rattle.server.specs.declared.site.TheConstants.{JOURNAL_STEPS}
use Rattle.server.specs.declared.stored_site.StoredSite.{StoredSite}
use Rattle.server.specs.declared.stored_working.StoredSiteTask.{StoredSiteTask}
use Rattle.server.proofs.ServedSites.{got_within}

-- each site that has ended is the one at its place
pub served_ends : {D Group Base O : Type 0} {ghosts : _} (Gives : StoredSiteTask → ℕ → List (List ℕ) → PassState → O → PassState → Type 0) (Holds : D → List Step → Type 0) (Keeps : D → List Step → List Step → Type 0) (begun : D → SiteState)
    (resumed : List (ResumedState D)) (sites : List (StoredSiteTasks D StoredSite StoredSiteTask Group Base ghosts)) (ends : List (StoredSiteOutput D O)) → length resumed ≡ length sites
    → AtEach (λ place (site : StoredSiteTasks D StoredSite StoredSiteTask Group Base ghosts). IsAtItsPlace resumed place site) sites → HaveStoredEnds Gives Holds Keeps begun JOURNAL_STEPS sites ends → HaveServedEnds Holds Keeps begun resumed ends
served_ends {D} {Group} {Base} {O} {ghosts} Gives Holds Keeps begun resumed sites ends long each have place own end stands ended =
    let within = slice_get_within resumed place own stands in
    let low : place < length sites = omega (arith, within, long) in
    let site = got_within sites place low in
    let is : IsAtItsPlace resumed place site.0 = subst (λ (x : StoredSiteTasks D StoredSite StoredSiteTask Group Base ghosts). IsAtItsPlace resumed place x) (get_or_from_slice_get sites place site.0 site.0 site.1) (each place site.0 low) in
    let has = have place site.0 end site.1 ended in
    let same : site.0.resumed ≡ own = sym (get_or_from_slice_get resumed place site.0.resumed own is) ∙ get_or_from_slice_get resumed place own own stands in
    subst (λ r. HasServedEnd Holds Keeps begun r end) (ap (λ (s : ResumedState D). s.replica) same)
    (record { of_site = has.ended.own_site; limit = has.ended.limit_is; begun_is = has.ended.begun; stored = has.stored; lost = has.lost })
