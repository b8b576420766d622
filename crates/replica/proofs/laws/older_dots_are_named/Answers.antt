use Rattle.replica.proofs.SiteViewLaws.{older_named}
use Rattle.replica.proofs.laws.older_dots_are_named.Goals as goal

pub returns : goal.returns
returns c = older_named
