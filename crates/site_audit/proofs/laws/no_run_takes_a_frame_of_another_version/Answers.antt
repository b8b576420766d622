use Rattle.std.proofs.Common.{◌≡◌, ◌∷◌, inl, inr, ℕ, zero, suc, List, [], Some, slice_get, sym, ap, subst, ◌∙◌}
use Rattle.delta.specs.declared.frame.Frame.{Frame}
use Rattle.delta_codec.specs.Frames.{SpellsIn}
use Rattle.delta_codec.specs.declared.limits.TheConstants.{VERSION}
use Rattle.delta_codec.proofs.FrameLaws.{one_version}
use Rattle.site_journal.specs.declared.step.Step.{Step}
use Rattle.site_journal.specs.declared.step.StepDeed.TheVariants.{Took}
use Rattle.sites_world.specs.declared.event.Event.{Event}
use Rattle.sites_world.specs.declared.event.Event.TheVariants as event
use Rattle.sites_world.specs.Worlds.{World, happens}
use Rattle.sites_world.proofs.Lists.{none_some, one_some}
use Rattle.site_audit.specs.Runs.{AreGiven, GivesDeed}
use Rattle.site_audit.proofs.laws.no_run_takes_a_frame_of_another_version.Goals as goal

-- an event gives the take of these bytes only where they spell a frame of the pool, in the version that is written
spells_entry : (names : List (List ℕ)) (w : World) (e : Event) (bytes : List ℕ) → GivesDeed names w e (Took bytes) → (frame : Frame) × SpellsIn VERSION frame bytes
spells_entry names w (event.Ask site asked) bytes gives = absurd gives
spells_entry names w (event.Take site place) bytes gives = (gives.1.spelling.frame, gives.1.spelling.spelled)
spells_entry names w (event.Cut site) bytes gives = absurd gives
spells_entry names w (event.Whole site) bytes gives = absurd gives

-- each take that events give a site is of bytes that spell a frame in the version that sites write
given_spells : (names : List (List ℕ)) (w : World) (es : List Event) (site position : ℕ) (steps : List Step) (step : Step) (bytes : List ℕ)
    → AreGiven names w es site steps → slice_get steps position ≡ Some step → step.deed ≡ Took bytes → (frame : Frame) × SpellsIn VERSION frame bytes
given_spells names w [] site position steps step bytes given here took = absurd (none_some step (sym (ap (λ xs. slice_get xs position) given) ∙ here))
given_spells names w (e ∷ es) site zero steps step bytes (inl p) here took =
    let first = one_some p.1 step (sym (ap (λ xs. slice_get xs zero) p.3) ∙ here) in
    spells_entry names w e bytes (subst (λ deed. GivesDeed names w e deed) (ap (λ x. x.deed) first ∙ took) p.4)
given_spells names w (e ∷ es) site (suc n) steps step bytes (inl p) here took =
    given_spells names (happens names w e).0 es site n p.2 step bytes p.5 (sym (ap (λ xs. slice_get xs (suc n)) p.3) ∙ here) took
given_spells names w (e ∷ es) site position steps step bytes (inr p) here took = given_spells names (happens names w e).0 es site position steps step bytes p.1 here took

pub returns : goal.returns
returns c = λ journals site position version j step bytes frame events is at took spelled other run.
    let found = given_spells _ _ events site position j.steps step bytes (run.given site j is) at took in
    other (one_version version VERSION frame found.0 bytes spelled found.1)
