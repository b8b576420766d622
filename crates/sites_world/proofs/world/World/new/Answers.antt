use Rattle.std.proofs.Common.{subst}
use Rattle.replica.specs.Queues.{AreQueues}
use Rattle.sites_world.proofs.Happenings.{new_stands}
use Rattle.sites_world.proofs.KeptWorlds.{new_is_world}
use Rattle.sites_world.proofs.world.World.new.Goals as goal

-- new sites and no frame stand for a new world
pub invariant_of-result : goal.invariant_of-result
invariant_of-result c =
    new_is_world _ c.in-Ok-new_sites.sites.items c.new.result.items c.args.sites (subst AreQueues c.list.view_is c.list.invariant) c.if-sites-gt-SITES.false c.in-Ok-new_sites.ensures.count
    (new_stands _ c.args.sites c.in-Ok-new_sites.sites.items c.new.result.items c.in-Ok-new_sites.ensures.count c.new.ensures.items c.in-Ok-new_sites.ensures.each)

pub returns-in-Ok-new_sites-clause-meaning : goal.returns-in-Ok-new_sites-clause-meaning
returns-in-Ok-new_sites-clause-meaning c =
    new_stands _ c.args.sites c.in-Ok-new_sites.sites.items c.new.result.items c.in-Ok-new_sites.ensures.count c.new.ensures.items c.in-Ok-new_sites.ensures.each
