use Rattle.std.proofs.Common.{◌≡◌, ◌≤◌, ℕ, List, length, take, vec_len, vec_capacity}
use Rattle.sites_world.specs.Worlds.{IsReached, World}
use Rattle.sites_world.specs.Conditions.{EventsLead}
use Rattle.sites_world.specs.WorldStates.{HaveHappened, IsWorld, StandsForWorld}
use Rattle.sites_world.proofs.run.run_all.Given as goal

-- the events so far have happened, and there is room for the outcomes of the others
abbrev pub invariant-loop-event : goal.invariant-loop-event
invariant-loop-event l = record {
  count : length l.sites.items ≡ length l.initial.sites.items;
  reported : vec_len l.outcomes ≡ l.event-index;
  room : length l.events ≤ vec_capacity l.outcomes;
  happened : (names : List (List ℕ)) (w : World) → IsReached names (length l.initial.sites.items) w
      → StandsForWorld (record { names = names; sites = l.initial.sites.items; pool = l.initial.pool.items }) w
      → HaveHappened (record { names = names; sites = l.sites.items; pool = l.pool.items }) w (take l.event-index l.events) l.outcomes.items;
  world : (names : List (List ℕ)) → IsWorld (record { names = names; sites = l.initial.sites.items; pool = l.initial.pool.items })
      → IsWorld (record { names = names; sites = l.sites.items; pool = l.pool.items });
  led : (names : List (List ℕ)) → IsWorld (record { names = names; sites = l.initial.sites.items; pool = l.initial.pool.items })
      → EventsLead (record { names = names; sites = l.initial.sites.items; pool = l.initial.pool.items }) (take l.event-index l.events) l.outcomes.items
      (record { names = names; sites = l.sites.items; pool = l.pool.items });
}
