-- Steps that are refused.
use Rattle.std.proofs.Common.{◌≡◌, ℕ, suc, ◌^◌, Bool, true, false, List, [], ◌∷◌, ◌++◌, refl, ap, subst, nat_lt, T, if◌then◌else◌}
use Rattle.std.specs.FinSet as set
use Rattle.dots.specs.DotSets.{run_count}
use Rattle.operations.specs.Knowledge.{Knowledge, visible_dots, known_dots}
use Rattle.replica.specs.Changes.{Meaning, Refused, Makes, meaning}
use Rattle.replica.specs.Promises.{RefusalsChangeNothing}
use Rattle.replica.specs.SiteViews.{site_view}
use Rattle.replica.specs.Steps.{SiteKnowledge, Step, Do, Cut, Whole, Take, Outcome, Done, Denied, Framed, Nothing, NoNumber, Taken, CellsFull, RunsFull, after_meaning, after_frame, cut, take, step}

-- whether an outcome is a change
changes : Outcome → Bool
changes Done = true
changes (Denied refusal) = false
changes (Framed number frame) = true
changes Nothing = false
changes NoNumber = false
changes Taken = true
changes CellsFull = false
changes RunsFull = false

Kept : SiteKnowledge → SiteKnowledge × Outcome → Type 0
Kept s after = changes after.1 ≡ false → after.0 ≡ s

no : {P : Type 0} → true ≡ false → P
no h = absurd (subst T h tt)

kept_meaning : (s : SiteKnowledge) (m : Meaning) → Kept s (after_meaning s m)
unfolding Kept changes
kept_meaning s (Refused refusal) h = refl
kept_meaning s (Makes o) h = no h

kept_framed : (s : SiteKnowledge) (frame buffer : Knowledge) → Kept s (after_frame s frame buffer)
unfolding Kept changes
kept_framed s frame buffer = by (nat_lt (2 ^ 40) (suc s.frames))
  where
    by : (b : Bool) → Kept s (if b then (s, NoNumber) else (record { known = s.known; buffer = buffer; frames = suc s.frames }, Framed (suc s.frames) frame))
    by true h = refl
    by false h = no h

kept_cut : (s : SiteKnowledge) (buffer : Knowledge) → Kept s (cut s buffer)
unfolding Kept changes
kept_cut s [] = λ h. refl
kept_cut s (o ∷ os) = kept_framed s (o ∷ os) []

kept_take : (s : SiteKnowledge) (frame : Knowledge) → Kept s (take s frame)
unfolding Kept changes
kept_take s frame = by (nat_lt 16384 (set.len (visible_dots (frame ++ s.known)))) (nat_lt 65536 (run_count (known_dots (frame ++ s.known))))
  where
    by : (a b : Bool) → Kept s (if a then (s, CellsFull) else if b then (s, RunsFull) else (record { known = frame ++ s.known; buffer = s.buffer; frames = s.frames }, Taken))
    by true b h = refl
    by false true h = refl
    by false false h = no h

kept : (site : ℕ) (names : List (List ℕ)) (s : SiteKnowledge) (event : Step) → Kept s (step site names s event)
kept site names s (Do change) = kept_meaning s (meaning site names (site_view site s.known) (site_view site s.buffer) change)
kept site names s Cut = kept_cut s s.buffer
kept site names s Whole = kept_framed s s.known s.buffer
kept site names s (Take frame) = kept_take s frame

pub refusals_change_nothing : (site : ℕ) (names : List (List ℕ)) (s : SiteKnowledge) (event : Step) → RefusalsChangeNothing site names s event
unfolding Kept changes
refusals_change_nothing site names s event = record {
  denied = λ refusal is. kept site names s event (ap changes is);
  nothing = λ is. kept site names s event (ap changes is);
  no_number = λ is. kept site names s event (ap changes is);
  cells_full = λ is. kept site names s event (ap changes is);
  runs_full = λ is. kept site names s event (ap changes is);
}
