-- Knowledges that are small enough for a frame, step by step.
use Rattle.std.specs.Prelude.{ℕ, ⊤, List}
use Rattle.dots.specs.Values.{IsCount}
use Rattle.operations.specs.FrameLimits.{IsSmallEnough}
use Rattle.replica.specs.Steps.{SiteKnowledge, Outcome, Step, Framed, step}

-- what a site knows is small enough for a frame, and so is what it has in its buffer
pub record IsSmallSite (s : SiteKnowledge) : Type 0 where
  pub known : IsSmallEnough s.known
  pub buffer : IsSmallEnough s.buffer

-- a frame that was made carries what is small enough for one, under a number of a frame
abbrev pub IsSmallFrame : Outcome → Type 0
IsSmallFrame (Framed number frame) = IsCount number × IsSmallEnough frame
IsSmallFrame other = ⊤

-- what a site knows after a step is small enough for a frame, and so is the frame that it may have made
pub record StaysSmall (after : SiteKnowledge × Outcome) : Type 0 where
  pub site : IsSmallSite after.0
  pub frame : IsSmallFrame after.1

-- a site that is small enough for a frame stays so with each step, whatever is asked and taken
abbrev pub StepsStaySmall : Type 0
StepsStaySmall = (site : ℕ) (names : List (List ℕ)) (s : SiteKnowledge) (event : Step) → IsSmallSite s → StaysSmall (step site names s event)
