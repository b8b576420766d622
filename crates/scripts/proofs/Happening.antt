-- What one event does to sites that stand for a world, and what they show of it.
use Rattle.std.proofs.Common.{◌≡◌, inl, inr, ℕ, List, [], ◌∷◌, length, slice_get, Option, Some, None, sym, ◌∙◌, ap, subst}
use Rattle.replica.specs.Site.{SiteState}
use Rattle.replica.specs.Standing.{StandsFor}
use Rattle.replica.specs.Steps.{SiteKnowledge}
use Rattle.delta.specs.declared.frame.Frame.{Frame}
use Rattle.delta_codec.specs.Frames.{SpellsIn}
use Rattle.delta_codec.specs.declared.limits.TheConstants.{VERSION}
use Rattle.ami_session.specs.Checks.{Asks, Waiting}
use Rattle.status_report.specs.declared.asks.Ask.{Ask}
use Rattle.sites_world.specs.declared.event.Event.{Event}
use Rattle.sites_world.specs.declared.event.Event.TheVariants as event
use Rattle.sites_world.specs.declared.outcome.Outcome.{Outcome}
use Rattle.sites_world.specs.declared.outcome.Outcome.TheVariants.{NoMemory}
use Rattle.sites_world.specs.Promises.{LeadsOn}
use Rattle.sites_world.specs.Worlds.{IsReached, World, happens}
use Rattle.sites_world.specs.WorldStates.{HasHappened, IsFrameOf, IsSiteOf, StandsForWorld, WorldState}
use Rattle.sites_world.proofs.Lists.{correspond_get, correspond_none_get}
use Rattle.scripts.specs.Answers.{frame_text, no_entry, outcome_text}
use Rattle.scripts.specs.Script.{IsEntryShown, ScriptSites, given_by_event, given_by_reaction, text_of_offer, waited_reply}
use Rattle.scripts.specs.LineSteps.{StandsForGiven, IsHappening, StandsAt}

-- one event has happened, and didn't run out of memory
pub one_happened : LeadsOn → (place : ScriptSites) (old new : WorldState) (w : World) (e : Event) (o : Outcome) → place.names ≡ old.names → new.names ≡ old.names → length new.sites ≡ length old.sites
    → StandsAt old w → HasHappened new w e o → (o ≡ NoMemory → ⊥) → IsHappening place w e new o
one_happened leads place old new w e o names kept count at (inr no_memory) done = absurd (done no_memory.0)
one_happened leads place old new w e o names kept count at (inl happened) done = record {
  stands = record {
    reached = subst (λ n. IsReached new.names n (happens place.names w e).0) (sym count)
        (subst (λ names. IsReached names (length old.sites) (happens place.names w e).0) (sym kept)
        (subst (λ names. IsReached old.names (length old.sites) (happens names w e).0) (sym names) (leads old.names (length old.sites) w (e ∷ []) at.reached)));
    stands = subst (λ names. StandsForWorld new (happens names w e).0) (kept ∙ sym names) happened.2;
  };
  is = sym happened.1 ∙ ap (λ names. (happens names w e).1) (kept ∙ sym names);
}

-- what is written of an event
pub event_given : (place : ScriptSites) (w : World) (e : Event) (new : WorldState) (o : Outcome) (text : List ℕ) → IsHappening place w e new o → text ≡ outcome_text o
    → StandsForGiven (given_by_event place w e) new text
event_given place w e new o text happening is = record { stands = happening.stands; is = is ∙ ap outcome_text happening.is }

-- what is written of an ask, for which a message waits
pub ask_given : (place : ScriptSites) (w : World) (site : ℕ) (ask : Ask) (waiting : Waiting) (new : WorldState) (o : Outcome) (text : List ℕ)
    → IsHappening place w (event.Ask site ask) new o → text ≡ waited_reply waiting o → StandsForGiven (given_by_reaction place w site (Asks ask waiting)) new text
ask_given place w site ask waiting new o text happening is = record { stands = happening.stands; is = is ∙ ap (waited_reply waiting) happening.is }

-- what a queue offers at a site that is there
pub offered_some : (state : WorldState) (w : World) (site : ℕ) (replica : SiteState) (queue : Option (List ℕ)) (tried : List (List ℕ)) (text : List ℕ) → StandsAt state w
    → Some replica ≡ slice_get state.sites site
    → ((s : SiteKnowledge) → StandsFor replica s → text ≡ text_of_offer replica.names (Some s) queue tried)
    → text ≡ text_of_offer state.names (slice_get w.sites site) queue tried
offered_some state w site replica queue tried text at is offers =
    let found = correspond_get (IsSiteOf state.names) state.sites w.sites at.stands.sites site replica (sym is) in
    offers found.0 found.2.stands ∙ (λ i. text_of_offer (found.2.names_are i) (sym found.1 i) queue tried)

-- the offer of a queue at a site that isn't there
pub offered_none : (state : WorldState) (w : World) (site : ℕ) (queue : Option (List ℕ)) (tried : List (List ℕ)) (text : List ℕ) → StandsAt state w
    → None ≡ slice_get state.sites site → text ≡ [] → text ≡ text_of_offer state.names (slice_get w.sites site) queue tried
offered_none state w site queue tried text at is empty =
    empty ∙ ap (λ s. text_of_offer state.names s queue tried) (sym (correspond_none_get (IsSiteOf state.names) state.sites w.sites at.stands.sites site (sym is)))

-- an entry that is shown
pub shown_some : (state : WorldState) (w : World) (place : ℕ) (frame : Frame) (text : List ℕ) → StandsAt state w → Some frame ≡ slice_get state.pool place
    → (bytes : List ℕ) × SpellsIn VERSION frame bytes × (text ≡ frame_text bytes) → IsEntryShown place (slice_get w.pool place) text
shown_some state w place frame text at is shown =
    let found = correspond_get IsFrameOf state.pool w.pool at.stands.pool place frame (sym is) in
    subst (λ entry. IsEntryShown place entry text) (sym found.1) (shown.0, (record { frame = frame; is = found.2; spells = shown.1 }), shown.2)

-- the output of an entry that isn't there
pub shown_none : (state : WorldState) (w : World) (place : ℕ) (text : List ℕ) → StandsAt state w → None ≡ slice_get state.pool place → text ≡ no_entry
    → IsEntryShown place (slice_get w.pool place) text
shown_none state w place text at is none =
    subst (λ entry. IsEntryShown place entry text) (sym (correspond_none_get IsFrameOf state.pool w.pool at.stands.pool place (sym is))) none
