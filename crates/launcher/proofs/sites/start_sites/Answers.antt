use Rattle.std.proofs.Common.{◌≡◌, ◌∙◌, Some, ap, arith, slice_get, sym, vec_len}
use Rattle.launcher.specs.Promises.{IsEndPromisedAt}
use Rattle.launcher.proofs.PlaceLemmas.{each_itself, each_pop, each_push}
use Rattle.launcher.proofs.sites.start_sites.Goals as goal

-- no thread yet, and all sites are left
pub loop-site-init : goal.loop-site-init
loop-site-init g c = (
  omega (arith, c.requires.room.none),
  c.requires.room.room,
  c.requires.ready,
  (λ k none low. absurd (omega (arith, low, c.requires.room.none, c.args.sites.now.ok.0))),
  each_itself c.args.all.items,
)

-- a thread more promises the end of the last site that was left
pub loop-site-preserved : goal.loop-site-preserved
loop-site-preserved g c =
    let was = c.loop-site.invariant in
    let less = c.in-Some.ensures.cases in
    let ready = each_pop (λ k site. goal.F-pre g c.args.run.now site) c.loop-site.all.items c.pop.new.self.items c.in-Some.site c.in-Some.ensures.items was.2 in
    let kept = each_pop (λ place site. slice_get c.args.all.items place ≡ Some site) c.loop-site.all.items c.pop.new.self.items c.in-Some.site c.in-Some.ensures.items was.4 in
    let made = c.in-Ok.ensures in (
      omega (arith, c.push_reserved.ensures.len, was.0, less),
      (let e = c.push_reserved.ensures.capacity in omega (arith, e, was.1)),
      ready.0,
      each_push (λ k site. IsEndPromisedAt c.args.limit c.args.all.items k site.promise) c.loop-site.sites.items c.push_reserved.new.self.items c.in-Ok.handle c.push_reserved.ensures.items was.3
          (λ place at. let here : vec_len c.pop.new.self ≡ place = omega (arith, at, was.0, less, c.loop-site.sites.ok.0, c.args.all.ok.0) in record {
            limit_is = made.limit;
            site_is = ap (slice_get c.args.all.items) (sym here ∙ c.pop.new.self.ok.0) ∙ (kept.1 ∙ ap Some (sym made.site));
          }),
      kept.0,
    )

-- a site that is left can be launched
pub start_site-requires-clause-ready : goal.start_site-requires-clause-ready
start_site-requires-clause-ready g c = λ _ _.
    (each_pop (λ k site. goal.F-pre g c.args.run.now site) c.loop-site.all.items c.pop.new.self.items c.in-Some.site c.in-Some.ensures.items c.loop-site.invariant.2).1
