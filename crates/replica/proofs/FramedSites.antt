-- What a replica stands for once it has made a frame.
use Rattle.std.proofs.Common.{◌≡◌, ◌≢◌, ◌<◌, ◌≤◌, ℕ, suc, true, false, [], ◌∷◌, refl, sym, ap, subst, ◌∙◌, if◌then◌else◌, arith}
use Rattle.std.specs.Prelude.{length, nat_lt}
use Rattle.std.proofs.lemmas.Bool.Decides.{nat_tests}
use Rattle.dots.specs.declared.limits.TheConstants.{MOST_COUNT, QUEUES}
use Rattle.operations.specs.Knowledge.{Knowledge}
use Rattle.delta.specs.DeltaStates.{DeltaState, IsEmpty}
use Rattle.delta.specs.Standing.{IsDeltaOf}
use Rattle.delta.proofs.StandingDeltas.{same_stands}
use Rattle.delta.specs.declared.frame.Frame.{Frame}
use Rattle.delta.specs.Frames.{IsInRanges, frame_of}
use Rattle.replica.specs.Framing.{HasCopied, HasCut, IsFramed}
use Rattle.replica.specs.Keeping.{AreInQueues}
use Rattle.replica.specs.Queues.{AreQueues}
use Rattle.replica.specs.Site.{SiteState}
use Rattle.replica.specs.Standing.{StandsFor}
use Rattle.replica.specs.Steps.{Framed, NoNumber, Nothing, Outcome, SiteKnowledge, after_frame, cut}
use Rattle.replica.proofs.StandingSites.{cut_stands, empty_buffer, equal_same, whole_stands}

-- the outcome of a frame where no number is left
no_number : (s : SiteKnowledge) (frame buffer : Knowledge) → s.frames ≡ MOST_COUNT → after_frame s frame buffer ≡ (s, NoNumber)
no_number s frame buffer most =
    ap (λ b. if b then (s, NoNumber) else (record { known = s.known; buffer = buffer; frames = suc s.frames }, Framed (suc s.frames) frame)) (past s.frames most)
  where
    past : (n : ℕ) → n ≡ MOST_COUNT → nat_lt MOST_COUNT (suc n) ≡ true
    past n e = grind (arith, nat_tests)

-- the outcome of a frame where a number is left
next_number : (s : SiteKnowledge) (frame buffer : Knowledge) → s.frames < MOST_COUNT
    → after_frame s frame buffer ≡ (record { known = s.known; buffer = buffer; frames = suc s.frames }, Framed (suc s.frames) frame)
next_number s frame buffer few =
    ap (λ b. if b then (s, NoNumber) else (record { known = s.known; buffer = buffer; frames = suc s.frames }, Framed (suc s.frames) frame)) (within s.frames few)
  where
    within : (n : ℕ) → n < MOST_COUNT → nat_lt MOST_COUNT (suc n) ≡ false
    within n h = grind (arith, nat_tests)

-- a site after a step, and the step's outcome
abbrev After : Type 0
After = SiteKnowledge × Outcome

-- a number that isn't the greatest is below it
pub below_most : (n : ℕ) → n ≤ MOST_COUNT → n ≢ MOST_COUNT → n < MOST_COUNT
below_most n few other = omega arith

-- a frame under a number that is left, of queues of a list, is in the ranges of the format
pub in_ranges : (n : ℕ) (frame : Frame) → 1 ≤ frame.number → frame.number ≤ MOST_COUNT → n ≤ QUEUES → AreInQueues n frame.delta → IsInRanges frame
in_ranges n frame some few queues within = record {
  number = (some, few);
  queues = λ dot held live. at held.0.queue (within.members dot held live);
}
  where
    at : (q : ℕ) → q < n → q < QUEUES
    at q h = omega arith

-- a site's next frame, of a delta of its queues, is in the ranges of the format
pub next_in_ranges : (s : SiteState) (d : DeltaState) → AreQueues s.names → s.frames < MOST_COUNT → AreInQueues (length s.names) d → IsInRanges (frame_of s.site (suc s.frames) d)
next_in_ranges s d queues left within = in_ranges (length s.names) (frame_of s.site (suc s.frames) d) (omega arith) (omega (arith, left)) queues.few within

-- ---- cuts

-- a cut of an empty buffer makes nothing
pub nothing_cut : (state : SiteState) (s : SiteKnowledge) → StandsFor state s → IsEmpty state.pending → cut s s.buffer ≡ (s, Nothing)
nothing_cut state s stands empty = ap (cut s) ((empty_buffer state s stands).0 empty)

-- after a cut of an empty buffer the site stands for what it stood for
pub nothing_means : (old now : SiteState) (s : SiteKnowledge) → old ≡ now → StandsFor now s → IsEmpty old.pending → StandsFor now (cut s s.buffer).0 × ((cut s s.buffer).1 ≡ Nothing)
nothing_means old now s e stands empty =
    subst (λ (a : After). StandsFor now a.0 × (a.1 ≡ Nothing)) (sym (nothing_cut now s stands (subst (λ (r : SiteState). IsEmpty r.pending) e empty))) (stands, refl)

-- a buffer that isn't empty is cut as a frame
cut_some : (s : SiteKnowledge) (buffer : Knowledge) → (buffer ≡ [] → ⊥) → cut s buffer ≡ after_frame s buffer []
cut_some s [] some = absurd (some refl)
cut_some s (o ∷ os) some = refl

-- a cut of a buffer that isn't empty is refused if no number is left
pub cut_refused : (state : SiteState) (s : SiteKnowledge) → StandsFor state s → (IsEmpty state.pending → ⊥) → state.frames ≡ MOST_COUNT → cut s s.buffer ≡ (s, NoNumber)
cut_refused state s stands some most = cut_some s s.buffer (λ none. some ((empty_buffer state s stands).1 none)) ∙ no_number s s.buffer [] (stands.frames ∙ most)

-- after a refused cut the site stands for what it stood for
pub cut_exhausted : (old now : SiteState) (s : SiteKnowledge) → old ≡ now → StandsFor now s → (IsEmpty old.pending → ⊥) → old.frames ≡ MOST_COUNT
    → StandsFor now (cut s s.buffer).0 × ((cut s s.buffer).1 ≡ NoNumber)
cut_exhausted old now s e stands some most =
    let here = subst (λ (r : SiteState). StandsFor r s) (sym e) stands in
    subst (λ (a : After). StandsFor now a.0 × (a.1 ≡ NoNumber)) (sym (cut_refused old s here some most)) (stands, refl)

-- a cut of a buffer that isn't empty gives a frame if a number is left
pub cut_means : (old now new : SiteState) (frame : Frame) (s : SiteKnowledge) → old ≡ now → StandsFor now s → (IsEmpty old.pending → ⊥) → old.frames < MOST_COUNT → HasCut old frame new
    → StandsFor new (cut s s.buffer).0 × IsFramed frame (cut s s.buffer).1
cut_means old now new frame s e stands some few has =
    let here = subst (λ (r : SiteState). StandsFor r s) (sym e) stands in
    let is = cut_some s s.buffer (λ none. some ((empty_buffer old s here).1 none)) ∙ next_number s s.buffer [] (subst (λ n. n < MOST_COUNT) (sym here.frames) few) in
    subst (λ (a : After). StandsFor new a.0 × IsFramed frame a.1) (sym is) (
      cut_stands old new s here has.site (equal_same old.state new.state has.state) has.pending has.last_count has.last_time has.frames,
      record {
        says = s.buffer;
        outcome_is = ap (λ n. Framed n s.buffer) (ap suc here.frames ∙ sym has.heading.number);
        stands = subst (λ d. IsDeltaOf d s.buffer) (sym has.delta) here.buffer;
      },
    )

-- ---- frames of all

-- a frame of all is refused where no number is left
pub whole_refused : (state : SiteState) (s : SiteKnowledge) → StandsFor state s → state.frames ≡ MOST_COUNT → after_frame s s.known s.buffer ≡ (s, NoNumber)
whole_refused state s stands most = no_number s s.known s.buffer (stands.frames ∙ most)

-- a frame of everything is made if a number is left
pub whole_means : (old now new : SiteState) (frame : Frame) (s : SiteKnowledge) → old ≡ now → StandsFor now s → old.frames < MOST_COUNT → HasCopied old frame new
    → StandsFor new (after_frame s s.known s.buffer).0 × IsFramed frame (after_frame s s.known s.buffer).1
whole_means old now new frame s e stands few has =
    let here = subst (λ (r : SiteState). StandsFor r s) (sym e) stands in
    subst (λ (a : After). StandsFor new a.0 × IsFramed frame a.1) (sym (next_number s s.known s.buffer (subst (λ n. n < MOST_COUNT) (sym here.frames) few))) (
      whole_stands old new s here has.site (equal_same old.state new.state has.state) (equal_same old.pending new.pending has.pending) has.last_count has.last_time has.frames,
      record {
        says = s.known;
        outcome_is = ap (λ n. Framed n s.known) (ap suc here.frames ∙ sym has.heading.number);
        stands = same_stands old.state frame.delta s.known has.delta here.known;
      },
    )
