-- What one event more gives.
use Rattle.std.proofs.Common.{◌≡◌, ◌≢◌, inl, inr, ℕ, List, [], ◌∷◌, ◌++◌, refl, ap}
use Rattle.site_journal.specs.declared.step.Step.{Step}
use Rattle.sites_world.specs.declared.event.Event.{Event}
use Rattle.sites_world.specs.Worlds.{World, happens, run, site_of}
use Rattle.site_audit.specs.Runs.{AreGiven, GivesDeed}

-- the world after one event more
pub run_more : (names : List (List ℕ)) (w : World) (es : List Event) (e : Event) → (run names w (es ++ e ∷ [])).0 ≡ (happens names (run names w es).0 e).0
run_more names w [] e = refl
run_more names w (x ∷ es) e = run_more names (happens names w x).0 es e

-- one more event gives its site one more step
pub given_more : (names : List (List ℕ)) (w : World) (es : List Event) (e : Event) (site : ℕ) (steps : List Step) (step : Step) → AreGiven names w es site steps → site_of e ≡ site
    → GivesDeed names (run names w es).0 e step.deed → AreGiven names w (es ++ e ∷ []) site (steps ++ step ∷ [])
given_more names w [] e site steps step h of gives = inl (of, step, [], ap (λ s. s ++ step ∷ []) h, gives, refl)
given_more names w (x ∷ es) e site steps step (inl p) of gives =
    inl (p.0, p.1, p.2 ++ step ∷ [], ap (λ s. s ++ step ∷ []) p.3, p.4, given_more names (happens names w x).0 es e site p.2 step p.5 of gives)
given_more names w (x ∷ es) e site steps step (inr p) of gives = inr (p.0, given_more names (happens names w x).0 es e site steps step p.1 of gives)

-- one more event gives no other site a step
pub given_other : (names : List (List ℕ)) (w : World) (es : List Event) (e : Event) (site : ℕ) (steps : List Step) → AreGiven names w es site steps → site_of e ≢ site
    → AreGiven names w (es ++ e ∷ []) site steps
given_other names w [] e site steps h apart = inr (apart, h)
given_other names w (x ∷ es) e site steps (inl p) apart = inl (p.0, p.1, p.2, p.3, p.4, given_other names (happens names w x).0 es e site p.2 p.5 apart)
given_other names w (x ∷ es) e site steps (inr p) apart = inr (p.0, given_other names (happens names w x).0 es e site steps p.1 apart)
