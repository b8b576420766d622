use Rattle.sites_world.proofs.KeptWorlds.{world_after_event}
use Rattle.std.proofs.Common.{subst}
use Rattle.sites_world.specs.Conditions.{EventLeads}
use Rattle.sites_world.specs.WorldStates.{WorldState}
use Rattle.sites_world.proofs.world.World.happen.Goals as goal

-- the sites stand for the world after the event
pub invariant_of-self : goal.invariant_of-self
invariant_of-self c =
    world_after_event c.self.inside.list c.self.inside.sites.items c.happen.new.sites.items c.self.inside.pool.items c.happen.new.pool.items c.args.event c.happen.result
    c.self.invariant c.happen.ensures.count c.happen.ensures.values (c.happen.ensures.meaning c.self.inside.list)

pub returns-clause-world : goal.returns-clause-world
returns-clause-world c =
    world_after_event c.self.inside.list c.self.inside.sites.items c.happen.new.sites.items c.self.inside.pool.items c.happen.new.pool.items c.args.event c.happen.result
    c.self.invariant c.happen.ensures.count c.happen.ensures.values (c.happen.ensures.meaning c.self.inside.list)

-- the event leads from the old state
pub returns-clause-conditions : goal.returns-clause-conditions
returns-clause-conditions c =
    subst (λ (s : WorldState). EventLeads s c.args.event c.happen.result (record { names = c.self.inside.list; sites = c.happen.new.sites.items; pool = c.happen.new.pool.items })) c.self.view_is
    (c.happen.ensures.conditions c.self.inside.list c.self.invariant)
