use Rattle.std.proofs.Common.{length, subst}
use Rattle.sites_world.specs.Worlds.{IsReached}
use Rattle.sites_world.specs.WorldStates.{HaveHappened, StandsForWorld, WorldState}
use Rattle.sites_world.specs.Conditions.{EventsLead}
use Rattle.sites_world.proofs.world.World.run.Goals as goal

-- the sites stand for the world after the events
pub invariant_of-self : goal.invariant_of-self
invariant_of-self c = c.run_all.ensures.world c.self.inside.list c.self.invariant

pub returns-clause-meaning : goal.returns-clause-meaning
returns-clause-meaning c = λ w. subst (λ (s : WorldState). IsReached s.names (length s.sites) w → StandsForWorld s w
    → HaveHappened (record { names = c.self.inside.list; sites = c.run_all.new.sites.items; pool = c.run_all.new.pool.items }) w c.args.events.now c.run_all.new.outcomes.items)
    c.self.view_is (c.run_all.ensures.meaning c.self.inside.list w)

pub returns-clause-world : goal.returns-clause-world
returns-clause-world c = c.run_all.ensures.world c.self.inside.list c.self.invariant

-- the events lead from the old state
pub returns-clause-conditions : goal.returns-clause-conditions
returns-clause-conditions c =
    subst (λ (s : WorldState). EventsLead s c.args.events.now c.run_all.new.outcomes.items (record { names = c.self.inside.list; sites = c.run_all.new.sites.items; pool = c.run_all.new.pool.items })) c.self.view_is
    (c.run_all.ensures.conditions c.self.inside.list c.self.invariant)
