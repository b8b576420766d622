-- One site's steps: it does a command, cuts its buffer into a frame, makes a frame of all that it knows, or takes a frame (RR-7506:
-- a replica updates its state at the source and merges what it is sent).
use Rattle.std.specs.Prelude.{ℕ, suc, nat_lt, List, [], ◌∷◌, ◌++◌, if◌then◌else◌}
use Rattle.std.specs.FinSet as set
use Rattle.dots.specs.declared.limits.TheConstants.{MOST_COUNT, MOST_LIVE, MOST_RUNS}
use Rattle.dots.specs.DotSets.{run_count}
use Rattle.operations.specs.Knowledge.{Knowledge, visible_dots, known_dots}
use Rattle.replica.specs.declared.refusal.Refusal.{Refusal}
use Rattle.replica.specs.Changes.{Change, Meaning, Refused, Makes, meaning}
use Rattle.replica.specs.SiteViews.{site_view}

-- a site: what it knows, what it has in its buffer, and how many frames it has made
pub record SiteKnowledge : Type 0 where
  pub known : Knowledge
  pub buffer : Knowledge
  pub frames : ℕ

-- a new site
abbrev pub new_site : SiteKnowledge
new_site = record { known = []; buffer = []; frames = 0 }

-- a step of a site
pub data Step : Type 0 where
  Do : (change : Change) → Step
  Cut : Step
  Whole : Step
  Take : (frame : Knowledge) → Step

-- the outcome of a step: a command is done or refused; a frame has its number and what it carries, or there is nothing to cut, or
-- no number is left; a frame is taken, or its dots or the runs of its dots would be too many
pub data Outcome : Type 0 where
  Done : Outcome
  Denied : (refusal : Refusal) → Outcome
  Framed : (number : ℕ) (frame : Knowledge) → Outcome
  Nothing : Outcome
  NoNumber : Outcome
  Taken : Outcome
  CellsFull : Outcome
  RunsFull : Outcome

-- a site after a command of this meaning, and the outcome
abbrev pub after_meaning : SiteKnowledge → Meaning → SiteKnowledge × Outcome
after_meaning s (Refused refusal) = (s, Denied refusal)
after_meaning s (Makes o) = (record { known = o ∷ s.known; buffer = o ∷ s.buffer; frames = s.frames }, Done)

-- a frame of this knowledge, under the next number, if there is one
abbrev pub after_frame : SiteKnowledge → Knowledge → Knowledge → SiteKnowledge × Outcome
after_frame s frame buffer =
    if nat_lt MOST_COUNT (suc s.frames) then (s, NoNumber)
    else (record { known = s.known; buffer = buffer; frames = suc s.frames }, Framed (suc s.frames) frame)

-- a cut: an empty buffer gives no frame and uses no number
abbrev pub cut : SiteKnowledge → Knowledge → SiteKnowledge × Outcome
cut s [] = (s, Nothing)
cut s (o ∷ os) = after_frame s (o ∷ os) []

-- a site that takes what a frame carries: its knowledge grows, and its buffer stays
abbrev pub take : SiteKnowledge → Knowledge → SiteKnowledge × Outcome
take s frame =
    if nat_lt MOST_LIVE (set.len (visible_dots (frame ++ s.known))) then (s, CellsFull)
    else if nat_lt MOST_RUNS (run_count (known_dots (frame ++ s.known))) then (s, RunsFull)
    else (record { known = frame ++ s.known; buffer = s.buffer; frames = s.frames }, Taken)

-- a step of the site of this number with these queues
abbrev pub step : ℕ → List (List ℕ) → SiteKnowledge → Step → SiteKnowledge × Outcome
step site names s (Do change) = after_meaning s (meaning site names (site_view site s.known) (site_view site s.buffer) change)
step site names s Cut = cut s s.buffer
step site names s Whole = after_frame s s.known s.buffer
step site names s (Take frame) = take s frame
