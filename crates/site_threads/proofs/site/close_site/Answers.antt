use Rattle.site_threads.proofs.SiteLemmas.{ended_as}
use Rattle.site_threads.proofs.site.close_site.Goals as goal

pub returns : goal.returns
returns g c = λ tasks replica is done.
    let closed = c.in-Ok.ensures in
    ended_as _ _ _ _ replica _ tasks _ c.args.all.passes.items _ is closed.site closed.limit closed.begun done closed.count
