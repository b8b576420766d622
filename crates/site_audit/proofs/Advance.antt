-- One step more of the search.
use Rattle.std.proofs.Common.{◌≡◌, ◌<◌, inl, inr, ℕ, suc, List, [], ◌∷◌, ◌++◌, length, slice_get, slice_set, Some, refl, sym, ap, subst, ◌∙◌, take, drop}
use Rattle.std.proofs.lemmas.List.{length-set}
use Rattle.std.proofs.lemmas.Option.{slice_get_within}
use Rattle.std.proofs.lemmas.List.Elements.{All-append, All-from_recursion}
use Rattle.replica.specs.Site.{SiteState}
use Rattle.replica.specs.Steps.{SiteKnowledge}
use Rattle.site_journal.specs.declared.step.Step.{Step}
use Rattle.site_journal.specs.Journals.{JournalState}
use Rattle.site_journal.specs.Legal.{LeadAll}
use Rattle.sites_world.specs.declared.event.Event.{Event}
use Rattle.sites_world.specs.Worlds.{World, after_happening, happens, happens_at, happens_where, new_world, site_of}
use Rattle.sites_world.specs.WorldStates.{IsSiteOf}
use Rattle.sites_world.proofs.Lists.{get_set_same, get_set_other, one_some}
use Rattle.site_audit.specs.Runs.{AreGiven, GivesDeed, names_in, world_after}
use Rattle.site_audit.specs.Places.{HaveGiven, IsSiteAt}
use Rattle.site_audit.proofs.Lists.{same_or_not, take_next}
use Rattle.site_audit.proofs.Given.{given_more, given_other, run_more}

-- an event at a site that is there
pub happens_known : (names : List (List ℕ)) (w : World) (e : Event) (s : SiteKnowledge) → slice_get w.sites (site_of e) ≡ Some s
    → happens names w e ≡ (after_happening w (site_of e) (happens_at names w.pool s e), (happens_at names w.pool s e).outcome)
happens_known names w e s k = ap (λ x. happens_where names w (site_of e) x e) k

module _ (journals : List JournalState) (at : List ℕ) (events : List Event) (is : HaveGiven journals at events)
    (j : JournalState) (n : ℕ) (step : Step) (e : Event) (s : SiteKnowledge)
    (journal : slice_get journals (site_of e) ≡ Some j) (place : slice_get at (site_of e) ≡ Some n) (next : slice_get j.steps n ≡ Some step)
    (knows : slice_get (world_after journals events).sites (site_of e) ≡ Some s) where
  -- the world after it
  pub world_more : world_after journals (events ++ e ∷ [])
      ≡ after_happening (world_after journals events) (site_of e) (happens_at (names_in journals) (world_after journals events).pool s e)
  world_more = run_more (names_in journals) (new_world (length journals)) events e ∙ ap (λ x. x.0) (happens_known (names_in journals) (world_after journals events) e s knows)

  -- the search with one step more
  pub advance : (to : SiteState) → GivesDeed (names_in journals) (world_after journals events) e step.deed
      → IsSiteOf (names_in journals) (site_of e) to (happens_at (names_in journals) (world_after journals events).pool s e).site → LeadAll to (drop (suc n) j.steps) j.replica
      → HaveGiven journals (slice_set at (site_of e) (suc n)) (events ++ e ∷ [])
  advance to gives stands leads = record {
    places = length-set at (site_of e) (suc n) ∙ is.places;
    sites = All-append (λ x. site_of x < length journals) events (e ∷ []) is.sites
        (All-from_recursion (λ x. site_of x < length journals) (e ∷ []) (slice_get_within journals (site_of e) j journal, tt));
    each = by;
  }
    where
      within : site_of e < length at
      within = slice_get_within at (site_of e) n place

      was : IsSiteAt journals events (site_of e) n j
      was = is.each (site_of e) n j journal place

      -- at the event's site
      here : IsSiteAt journals (events ++ e ∷ []) (site_of e) (suc n) j
      here = record {
        given = record {
          within = slice_get_within j.steps n step next;
          given = subst (λ steps. AreGiven (names_in journals) (new_world (length journals)) (events ++ e ∷ []) (site_of e) steps) (sym (take_next j.steps n step next))
              (given_more (names_in journals) (new_world (length journals)) events e (site_of e) (take n j.steps) step was.given.given refl gives);
        };
        s = (happens_at (names_in journals) (world_after journals events).pool s e).site;
        knows = ap (λ w. slice_get w.sites (site_of e)) world_more ∙ get_set_same _ (site_of e) _ (slice_get_within (world_after journals events).sites (site_of e) s knows);
        state = to;
        is = stands;
        leads = leads;
      }

      -- elsewhere
      there : (site m : ℕ) (k : JournalState) → (site ≡ site_of e → ⊥) → IsSiteAt journals events site m k → IsSiteAt journals (events ++ e ∷ []) site m k
      there site m k apart p = record {
        given = record {
          within = p.given.within;
          given = given_other (names_in journals) (new_world (length journals)) events e site (take m k.steps) p.given.given (λ q. apart (sym q));
        };
        s = p.s;
        knows = ap (λ w. slice_get w.sites site) world_more ∙ get_set_other (world_after journals events).sites (site_of e) site _ apart ∙ p.knows;
        state = p.state;
        is = p.is;
        leads = p.leads;
      }

      by : (site m : ℕ) (k : JournalState) → slice_get journals site ≡ Some k → slice_get (slice_set at (site_of e) (suc n)) site ≡ Some m → IsSiteAt journals (events ++ e ∷ []) site m k
      by site m k at-journals at-places = elim (same_or_not site (site_of e)) [
        | inl q ↦
            subst (λ v. IsSiteAt journals (events ++ e ∷ []) v m k) (sym q)
            (subst (λ v. IsSiteAt journals (events ++ e ∷ []) (site_of e) m v) (one_some j k (sym journal ∙ sym (ap (slice_get journals) q) ∙ at-journals))
            (subst (λ v. IsSiteAt journals (events ++ e ∷ []) (site_of e) v j)
            (one_some (suc n) m (sym (get_set_same at (site_of e) (suc n) within) ∙ sym (ap (slice_get (slice_set at (site_of e) (suc n))) q) ∙ at-places)) here))
        | inr apart ↦ there site m k apart (is.each site m k at-journals (sym (get_set_other at (site_of e) site (suc n) apart) ∙ at-places))
      ]
