-- The journals of sites that have ended.
use Rattle.std.proofs.Common.{◌≡◌, ◌∙◌, ◌<◌, ℕ, zero, suc, List, [], ◌∷◌, Some, length, slice_get, slice_index_or, refl, subst, arith}
use Rattle.std.proofs.lemmas.Option.{get_or_from_slice_get, slice_get-get_or, slice_get_within}
use Rattle.site_desk.specs.Passes.{PassState}
use Rattle.site_links.specs.declared.linking.SiteLinks.{SiteLinks}
use Rattle.site_threads.specs.Ends.{HaveEnded}
use Rattle.launcher.specs.Places.{AtEach}
use Rattle.site_threads.specs.declared.site_tasks.SiteOutput.{SiteOutput}
use Rattle.site_threads.specs.declared.site_tasks.SiteTasks.{SiteTasks}
use Rattle.server.specs.ServedJournals.{IsServedJournal}
use Rattle.server.specs.Tasks.{IsNewSite, IsReady}
use Rattle.server.specs.declared.ready_site.ReadySite.{ReadySite}
use Rattle.server.specs.declared.site.Site.{Site}
use Rattle.server.specs.declared.site.TheConstants.{JOURNAL_STEPS}
use Rattle.server.specs.declared.working.SiteTask.{SiteTask}

-- a place within a list has an element
pub got_within : {E : Type 0} (xs : List E) (k : ℕ) → k < length xs → (x : E) × (slice_get xs k ≡ Some x)
got_within [] k low = absurd (omega (arith, low))
got_within (x ∷ xs) zero low = (x, refl)
got_within (x ∷ xs) (suc k) low = got_within xs k (omega (arith, low))

-- each journal is that of its site
pub served_each : {O : Type 0} (Gives : SiteTask → ℕ → List (List ℕ) → PassState → O → PassState → Type 0) (names : List (List ℕ)) (answering : ℕ) (links : SiteLinks)
    (ready : List ReadySite) (sites : List (SiteTasks Site SiteTask)) (ends : List (SiteOutput O)) → length ends ≡ length sites
    → AtEach (λ place (own : ReadySite). IsReady answering links place own) ready
    → AtEach (λ place (site : SiteTasks Site SiteTask). (own : ReadySite) × (slice_get ready place ≡ Some own) × IsNewSite names own site) sites
    → HaveEnded Gives JOURNAL_STEPS sites ends → AtEach (λ site (end : SiteOutput O). IsServedJournal site names end.journal) ends
served_each {O} Gives names answering links ready sites ends long each made have k none low =
    let site = got_within sites k (omega (arith, low, long)) in
    let end = slice_index_or ends k none in
    let new = subst (λ (x : SiteTasks Site SiteTask). (own : ReadySite) × (slice_get ready k ≡ Some own) × IsNewSite names own x)
    (get_or_from_slice_get sites k site.0 site.0 site.1) (made k site.0 (omega (arith, low, long))) in
    let is : IsReady answering links k new.0 = subst (λ (x : ReadySite). IsReady answering links k x)
    (get_or_from_slice_get ready k new.0 new.0 new.1) (each k new.0 (slice_get_within ready k new.0 new.1)) in
    let ended = have k site.0 end site.1 (slice_get-get_or ends k none low) in
    subst (λ n. IsServedJournal n names end.journal) (new.2.site_is ∙ is.number)
    (subst (λ l. IsServedJournal site.0.replica.site l end.journal) new.2.names_are (record { of_site = ended.own_site; limit = ended.limit_is; begun = ended.new new.2.new }))
