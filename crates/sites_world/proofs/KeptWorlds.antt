-- What holds of every world, through its events.
use Rattle.std.proofs.Common.{◌≡◌, ◌≤◌, inl, inr, ℕ, List, [], ◌∷◌, length, refl, sym, subst}
use Rattle.dots.specs.declared.limits.TheConstants.{SITES}
use Rattle.delta.specs.declared.frame.Frame.{Frame}
use Rattle.replica.specs.Queues.{AreQueues}
use Rattle.replica.specs.Site.{SiteState}
use Rattle.replica.specs.declared.command.Command.{Command}
use Rattle.status_report.specs.declared.asks.Ask.TheVariants.{Command as asked_command, Status}
use Rattle.sites_world.specs.declared.event.Event.{Event}
use Rattle.sites_world.specs.declared.event.Event.TheVariants as event
use Rattle.sites_world.specs.declared.outcome.Outcome.{Outcome}
use Rattle.sites_world.specs.SiteOutcomes.{IsAsk}
use Rattle.sites_world.specs.WithinLimits.{HasValuesWithinLimits, KnowsWithinLimits}
use Rattle.sites_world.specs.Worlds.{IsReached, World, happens, new_world}
use Rattle.sites_world.specs.WorldStates.{HasHappened, IsWorld, StandsForWorld, WorldState}
use Rattle.sites_world.proofs.Happenings.{reached_more}
use Rattle.sites_world.proofs.WithinLimits.{events_keep_limits, new_within}

-- an event whose copy runs out of memory, which no command's does, has values within their limits
pub status_within : (e : Event) → IsAsk e → ((site : ℕ) (command : Command) → e ≡ event.Ask site (asked_command command) → ⊥) → HasValuesWithinLimits e
status_within (event.Ask site (asked_command command)) is status = absurd (status site command refl)
status_within (event.Ask site (Status request)) is status = tt
status_within (event.Cut site) is status = tt
status_within (event.Whole site) is status = tt
status_within (event.Take site place) is status = tt

-- after an event of values within their limits there is still a world that the sites stand for
pub world_after_event : (names_of_queues : List (List ℕ)) (sites new_sites : List SiteState) (pool new_pool : List Frame) (e : Event) (o : Outcome)
    → IsWorld (record { names = names_of_queues; sites = sites; pool = pool }) → length new_sites ≡ length sites → HasValuesWithinLimits e
    → ((w : World) → IsReached names_of_queues (length sites) w → StandsForWorld (record { names = names_of_queues; sites = sites; pool = pool }) w
    → HasHappened (record { names = names_of_queues; sites = new_sites; pool = new_pool }) w e o)
    → IsWorld (record { names = names_of_queues; sites = new_sites; pool = new_pool })
world_after_event names_of_queues sites new_sites pool new_pool e o is count values happened = by (happened is.world is.reached is.stands)
  where
    after : WorldState
    after = record { names = names_of_queues; sites = new_sites; pool = new_pool }

    standing : (w : World) → IsReached names_of_queues (length sites) w → KnowsWithinLimits w → StandsForWorld after w → IsWorld after
    standing w reached within stands = record {
      queues = is.queues;
      few = subst (λ n. n ≤ SITES) (sym count) is.few;
      world = w;
      reached = subst (λ n. IsReached names_of_queues n w) (sym count) reached;
      within = within;
      stands = stands;
    }

    by : HasHappened after is.world e o → IsWorld after
    by (inl (done, outcome_is, stands)) =
        standing (happens names_of_queues is.world e).0 (reached_more names_of_queues (length sites) is.world (e ∷ []) is.reached)
        (events_keep_limits names_of_queues is.world e is.queues (subst (λ n. n ≤ SITES) is.stands.sites.lengths is.few) values is.within) stands
    by (inr (none, there, stands)) = standing is.world is.reached is.within stands

-- a new one is reached by no event
new_reached : (names_of_queues : List (List ℕ)) (sites : ℕ) → IsReached names_of_queues sites (new_world sites)
new_reached names_of_queues sites = record { events = []; is = refl }

-- states that stand for a new world are those of a reached one
pub new_is_world : (names_of_queues : List (List ℕ)) (sites : List SiteState) (pool : List Frame) (count : ℕ) → AreQueues names_of_queues → count ≤ SITES → length sites ≡ count
    → StandsForWorld (record { names = names_of_queues; sites = sites; pool = pool }) (new_world count) → IsWorld (record { names = names_of_queues; sites = sites; pool = pool })
new_is_world names_of_queues sites pool count queues few long stands = record {
  queues = queues;
  few = subst (λ n. n ≤ SITES) (sym long) few;
  world = new_world count;
  reached = subst (λ n. IsReached names_of_queues n (new_world count)) (sym long) (new_reached names_of_queues count);
  within = new_within count;
  stands = stands;
}
