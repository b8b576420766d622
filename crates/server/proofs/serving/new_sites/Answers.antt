use Rattle.std.proofs.Common.{rules, ◌≡◌, ◌+◌, Some, arith, slice_get, subst, sym, vec_len}
use Rattle.launcher.specs.Places.{AtEach}
use Rattle.site_threads.specs.declared.site_tasks.SiteTasks.{SiteTasks}
use Rattle.server.specs.Tasks.{IsNewSite}
use Rattle.server.specs.declared.ready_site.ReadySite.{ReadySite}
use Rattle.server.specs.declared.site.Site.{Site}
use Rattle.server.specs.declared.working.SiteTask.{SiteTask}
use Rattle.server.proofs.PlaceLemmas.{each_from, each_front, each_itself, each_none, each_pop}
use Rattle.server.proofs.serving.new_sites.Goals as goal

-- no site yet, and all that is ready is left
pub loop-own-init : goal.loop-own-init
loop-own-init c = (
  omega (arith, c.in-Ok.ensures.len),
  search rules,
  each_itself c.args.ready.items,
  each_none (λ k (site : SiteTasks Site SiteTask). (own : ReadySite) × (slice_get c.args.ready.items (vec_len c.args.ready + k) ≡ Some own) × IsNewSite c.args.list.now own site) c.in-Ok.sites.items (omega (arith, c.in-Ok.ensures.len, c.in-Ok.sites.ok.0)),
)

-- one site more
pub loop-own-preserved : goal.loop-own-preserved
loop-own-preserved c =
    let was = c.loop-own.invariant in
    let less = c.in-Some.ensures.cases in
    let left = each_pop (λ place (own : ReadySite). slice_get c.args.ready.items place ≡ Some own) c.loop-own.ready.items c.pop.new.self.items c.in-Some.own c.in-Some.ensures.items was.2 in
    let place = vec_len c.pop.new.self in (
      omega (arith, c.insert_first.ensures.len, was.0, less),
      (let e = c.insert_first.ensures.capacity in omega (arith, e, was.1)),
      left.0,
      each_front (λ at (one : SiteTasks Site SiteTask). (own : ReadySite) × (slice_get c.args.ready.items at ≡ Some own) × IsNewSite c.args.list.now own one) c.loop-own.sites.items c.insert_first.new.list.items _ place c.insert_first.ensures.items
          (subst (λ n. AtEach (λ k (one : SiteTasks Site SiteTask). (own : ReadySite) × (slice_get c.args.ready.items (n + k) ≡ Some own) × IsNewSite c.args.list.now own one) c.loop-own.sites.items) (omega (arith, less)) was.3)
          (c.in-Some.own, subst (λ n. slice_get c.args.ready.items n ≡ Some c.in-Some.own) (sym c.pop.new.self.ok.0) left.1, c.in-Ok-new_site.ensures),
    )

pub returns-clause-each : goal.returns-clause-each
returns-clause-each c = let none : vec_len c.loop-own.ready ≡ 0 = search rules in
    each_from (λ at (one : SiteTasks Site SiteTask). (own : ReadySite) × (slice_get c.args.ready.items at ≡ Some own) × IsNewSite c.args.list.now own one) c.loop-own.sites.items (vec_len c.loop-own.ready) none c.loop-own.invariant.3
