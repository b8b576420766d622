use Rattle.std.proofs.Common.{◌≡◌, ◌+◌, arith, length}
use Rattle.launcher.specs.Promises.{IsEndPromisedAt}
use Rattle.launcher.proofs.PlaceLemmas.{each_pop}
use Rattle.launcher.proofs.EndLemmas.{ended_push}
use Rattle.launcher.proofs.sites.join_sites.Goals as goal

-- the end of the last thread has come
pub loop-site-preserved : goal.loop-site-preserved
loop-site-preserved g c =
    let was = c.loop-site.invariant in
    let less = c.in-Some.ensures.cases in (
      omega (arith, c.push_reserved.ensures.len, was.0, less),
      (let e = c.push_reserved.ensures.capacity in omega (arith, e, was.1)),
      λ limit all long promised. let before = was.2 limit all long promised in
          let left = each_pop (λ k site. IsEndPromisedAt limit all k site.promise) c.loop-site.sites.items c.pop.new.self.items c.in-Some.site c.in-Some.ensures.items before.0 in
          let here : length c.loop-site.ends.items + length c.pop.new.self.items + 1 ≡ length all = omega (arith, was.0, less, long, c.loop-site.ends.ok.0, c.pop.new.self.ok.0) in (
            left.0,
            ended_push g.X.Launch.ends limit all c.loop-site.ends.items c.push_reserved.new.self.items c.in-Ok.end c.in-Some.site.promise c.push_reserved.ensures.items
                (left.1 (length c.loop-site.ends.items) here) c.in-Ok.ensures before.1,
          ),
    )

pub returns-clause-ends : goal.returns-clause-ends
returns-clause-ends g c = λ limit all long promised. (c.loop-site.invariant.2 limit all long promised).1
