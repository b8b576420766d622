use Rattle.std.proofs.Common.{sym, ◌∙◌}
use Rattle.member_orset.proofs.site_walk.SiteWalk.go_to.Goals as goal

pub invariant_of-self-clause-of_site : goal.invariant_of-self-clause-of_site
invariant_of-self-clause-of_site c = sym c.requires.0 ∙ c.args.self.now.of_site
