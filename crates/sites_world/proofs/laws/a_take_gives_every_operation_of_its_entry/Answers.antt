use Rattle.sites_world.proofs.TakenEntries.{taken_gives}
use Rattle.sites_world.proofs.laws.a_take_gives_every_operation_of_its_entry.Goals as goal

pub returns : goal.returns
returns c = taken_gives
