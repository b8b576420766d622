use Rattle.std.proofs.Common.{◌≡◌, ◌≢◌, ◌∙◌, ℕ, List, [], ◌∷◌, length, true, refl, sym, ap, subst, arith}
use Rattle.std.specs.List.{All}
use Rattle.std.proofs.lemmas.List.Elements.{All-head, All-tail}
use Rattle.delta.proofs.StandingDeltas.{one_delta}
use Rattle.replica.specs.Site.{IsSameSite, SiteState}
use Rattle.replica.specs.SiteViews.{greatest, count_used, time_used}
use Rattle.replica.specs.Steps.{SiteKnowledge}
use Rattle.sites_world.specs.declared.event.Event.{Event}
use Rattle.sites_world.specs.declared.outcome.Outcome.{Outcome}
use Rattle.sites_world.specs.declared.outcome.Outcome.TheVariants.{NoMemory}
use Rattle.sites_world.specs.Worlds.{done_of, is_done, new_world, run}
use Rattle.sites_world.specs.WorldStates.{IsSiteOf, StandsForWorld}
use Rattle.site_audit.specs.Runs.{names_in, world_after}
use Rattle.site_audit.proofs.laws.a_world_that_runs_an_audit_says_what_the_journals_say.Goals as goal

-- an event was done whose outcome isn't `NoMemory`
was_done : (o : Outcome) → o ≢ NoMemory → is_done o ≡ true
was_done NoMemory left = absurd (left refl)
was_done other left = refl

-- all events were done where no outcome is `NoMemory`
all_done : (es : List Event) (os : List Outcome) → length os ≡ length es → All (λ (o : Outcome). o ≢ NoMemory) os → done_of es os ≡ es
all_done [] [] count left = refl
all_done [] (o ∷ os) count left = refl
all_done (e ∷ es) [] count left = absurd (omega (arith, count))
all_done (e ∷ es) (o ∷ os) count left =
    rw (was_done o (All-head (λ (x : Outcome). x ≢ NoMemory) o os left))
    (ap (λ xs. e ∷ xs) (all_done es os (omega (arith, count)) (All-tail (λ (x : Outcome). x ≢ NoMemory) o os left)))

-- two states of a site that stand for one knowledge say the same
one_site : (names : List (List ℕ)) (site : ℕ) (a b : SiteState) (s : SiteKnowledge) → IsSiteOf names site a s → IsSiteOf names site b s → IsSameSite a b
one_site names site a b s x y = let number : b.site ≡ a.site = y.site ∙ sym x.site in record {
  site = number;
  names = y.names_are ∙ sym x.names_are;
  state = one_delta a.state b.state s.known x.stands.known y.stands.known;
  pending = one_delta a.pending b.pending s.buffer x.stands.buffer y.stands.buffer;
  last_count = sym y.stands.last_count ∙ (ap (λ n. greatest (count_used n) s.known) number ∙ x.stands.last_count);
  last_time = sym y.stands.last_time ∙ (ap (λ n. greatest (time_used n) s.known) number ∙ x.stands.last_time);
  frames = sym y.stands.frames ∙ x.stands.frames;
}

pub returns : goal.returns
returns c = λ journals events outcomes new site j state is names happened left known here.
    let knows = is.knows site j known in
    let done = all_done events outcomes happened.one_each left in
    let stands : StandsForWorld new (world_after journals events) =
    subst (λ ns. StandsForWorld new (run ns (new_world (length journals)) events).0) names
    (subst (λ es. StandsForWorld new (run new.names (new_world (length journals)) es).0) done happened.stands) in
    let there = stands.sites.each site state knows.s here knows.is in
    one_site (names_in journals) site j.replica state knows.s knows.stands (subst (λ ns. IsSiteOf ns site state knows.s) names there)
