use Rattle.sites_world.proofs.OutcomeLaws.{of_their_events, no_entry_is_exact, no_site_is_exact}
use Rattle.sites_world.proofs.laws.an_outcome_is_of_its_event.Goals as goal

pub returns : goal.returns
returns c = record { kind = of_their_events; no_site = no_site_is_exact; no_entry = no_entry_is_exact }
