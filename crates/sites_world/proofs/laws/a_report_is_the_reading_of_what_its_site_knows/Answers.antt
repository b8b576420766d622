use Rattle.std.proofs.Common.{ap}
use Rattle.status_report.specs.declared.asks.Ask.TheVariants.{Status}
use Rattle.sites_world.specs.declared.event.Event.TheVariants as event
use Rattle.sites_world.specs.Worlds.{happens_where}
use Rattle.sites_world.proofs.laws.a_report_is_the_reading_of_what_its_site_knows.Goals as goal

pub returns : goal.returns
returns c = λ names w site s request here. ap (λ x. (happens_where names w site x (event.Ask site (Status request))).1) here
