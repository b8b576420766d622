use Rattle.sites_world.proofs.Held.{may_join_frames, may_take_entries}
use Rattle.sites_world.proofs.laws.a_site_may_take_every_entry.Goals as goal

pub returns : goal.returns
returns c = record { entries = may_take_entries; frames = may_join_frames }
