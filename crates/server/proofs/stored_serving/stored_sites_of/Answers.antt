use Rattle.std.proofs.Common.{rules, ◌≡◌, ◌+◌, Some, arith, length, slice_get, subst, sym, vec_len}
use Rattle.launcher.specs.Places.{AtEach}
use Rattle.stored_threads.specs.ResumedSites.{ResumedState}
use Rattle.stored_threads.specs.declared.stored_site_tasks.StoredSiteTasks.{StoredSiteTasks}
use Rattle.server.specs.ServedStores.{IsAtItsPlace}
use Rattle.server.specs.declared.stored_site.StoredSite.{StoredSite}
use Rattle.server.specs.declared.stored_working.StoredSiteTask.{StoredSiteTask}
use Rattle.server.proofs.PlaceLemmas.{each_from, each_front, each_itself, each_none, each_pop}
use Rattle.server.proofs.stored_serving.stored_sites_of.Goals as goal

-- no site yet, and all are left
pub loop-site-init : goal.loop-site-init
loop-site-init g c = (
  omega (arith, c.in-Ok-with_capacity.ensures.len),
  search rules,
  sym c.requires,
  each_itself c.args.resumed.items,
  each_none (λ k (site : StoredSiteTasks g.row.D.Denot StoredSite StoredSiteTask g.row.D-Group.Denot g.row.D-Base.Denot g.D.StepStore). IsAtItsPlace c.args.resumed.items (vec_len c.args.resumed + k) site) c.in-Ok-with_capacity.sites.items (omega (arith, c.in-Ok-with_capacity.ensures.len, c.in-Ok-with_capacity.sites.ok.0)),
)

-- one site more
pub loop-site-preserved : goal.loop-site-preserved
loop-site-preserved g c =
    let was = c.loop-site.invariant in
    let less = c.in-Some.ensures.cases in
    let fewer = c.in-Some-pop.ensures.cases in
    let left = each_pop (λ place (site : ResumedState g.row.D.Denot). slice_get c.args.resumed.items place ≡ Some site) c.loop-site.resumed.items c.pop.new.self.items c.in-Some.site c.in-Some.ensures.items was.3 in
    let made = c.in-Ok-stored_site_of.ensures in
    let place = vec_len c.pop.new.self in (
      omega (arith, c.insert_first.ensures.len, was.0, less),
      (let e = c.insert_first.ensures.capacity in omega (arith, e, was.1)),
      omega (arith, fewer, was.2, less),
      left.0,
      each_front (λ at (one : StoredSiteTasks g.row.D.Denot StoredSite StoredSiteTask g.row.D-Group.Denot g.row.D-Base.Denot g.D.StepStore). IsAtItsPlace c.args.resumed.items at one) c.loop-site.sites.items c.insert_first.new.list.items _ place c.insert_first.ensures.items
          (subst (λ n. AtEach (λ k (one : StoredSiteTasks g.row.D.Denot StoredSite StoredSiteTask g.row.D-Group.Denot g.row.D-Base.Denot g.D.StepStore). IsAtItsPlace c.args.resumed.items (n + k) one) c.loop-site.sites.items) (omega (arith, less)) was.4)
          (subst (λ n. slice_get c.args.resumed.items n ≡ Some c.in-Ok-stored_site_of.site.resumed) (sym c.pop.new.self.ok.0)
          (subst (λ (s : ResumedState g.row.D.Denot). slice_get c.args.resumed.items (length c.pop.new.self.items) ≡ Some s) (sym made) left.1)),
    )

pub returns-clause-each : goal.returns-clause-each
returns-clause-each g c = let none : vec_len c.loop-site.resumed ≡ 0 = search rules in
    each_from (λ at (one : StoredSiteTasks g.row.D.Denot StoredSite StoredSiteTask g.row.D-Group.Denot g.row.D-Base.Denot g.D.StepStore). IsAtItsPlace c.args.resumed.items at one) c.loop-site.sites.items (vec_len c.loop-site.resumed) none c.loop-site.invariant.4
