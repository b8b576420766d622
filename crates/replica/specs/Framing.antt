-- A site after it has made a frame, and what the frame says.
use Rattle.std.specs.Prelude.{suc, ⊤, ◌≡◌, Option, Some, None, Result, Ok, Err}
use Rattle.operations.specs.Knowledge.{Knowledge}
use Rattle.delta.specs.DeltaStates.{IsEmpty, IsSame}
use Rattle.delta.specs.Standing.{IsDeltaOf}
use Rattle.delta.specs.declared.frame.Frame.{Frame}
use Rattle.replica.specs.declared.cut_fault.CutFault.{CutFault}
use Rattle.replica.specs.declared.cut_fault.CutFault.TheVariants.{Exhausted, Memory}
use Rattle.replica.specs.Site.{SiteState}
use Rattle.replica.specs.Standing.{StandsFor}
use Rattle.replica.specs.Steps.{Framed, NoNumber, Nothing, Outcome, SiteKnowledge}

-- a frame has the heading of a site's next one
pub record IsNextOf (s : SiteState) (frame : Frame) : Type 0 where
  pub maker : frame.maker ≡ s.site
  pub number : frame.number ≡ suc s.frames

-- a site has put its buffer into its next frame: the buffer is empty, without retired places, and everything else is as before
pub record HasCut (old : SiteState) (frame : Frame) (new : SiteState) : Type 0 where
  pub heading : IsNextOf old frame
  pub delta : frame.delta ≡ old.pending
  pub site : new.site ≡ old.site
  pub names : new.names ≡ old.names
  pub state : new.state ≡ old.state
  pub pending : IsEmpty new.pending
  pub none_retired : new.pending.members.retired ≡ 0
  pub last_count : new.last_count ≡ old.last_count
  pub last_time : new.last_time ≡ old.last_time
  pub frames : new.frames ≡ suc old.frames

-- a site has put a copy of its state into its next frame: all else is as before
pub record HasCopied (old : SiteState) (frame : Frame) (new : SiteState) : Type 0 where
  pub heading : IsNextOf old frame
  pub delta : IsSame old.state frame.delta
  pub none_retired : frame.delta.members.retired ≡ 0
  pub site : new.site ≡ old.site
  pub names : new.names ≡ old.names
  pub state : new.state ≡ old.state
  pub pending : new.pending ≡ old.pending
  pub last_count : new.last_count ≡ old.last_count
  pub last_time : new.last_time ≡ old.last_time
  pub frames : new.frames ≡ suc old.frames

-- an outcome is a frame: of the same number, with what the frame's delta stands for
pub record IsFramed (frame : Frame) (outcome : Outcome) : Type 0 where
  pub says : Knowledge
  pub outcome_is : outcome ≡ Framed frame.number says
  pub stands : IsDeltaOf frame.delta says

-- the result of a frame that is asked for is its outcome by the meaning, where there is something to say; the meaning leaves out of
-- memory open
abbrev pub IsMeantFrame : SiteState → Result Frame CutFault → SiteKnowledge × Outcome → Type 0
IsMeantFrame new (Ok frame) after = StandsFor new after.0 × IsFramed frame after.1
IsMeantFrame new (Err Exhausted) after = StandsFor new after.0 × (after.1 ≡ NoNumber)
IsMeantFrame new (Err Memory) after = ⊤

-- the result of a cut is its outcome by the meaning, which takes no memory: a frame, or nothing where there is nothing to say
abbrev pub IsMeantCut : SiteState → Result (Option Frame) CutFault → SiteKnowledge × Outcome → Type 0
IsMeantCut new (Ok None) after = StandsFor new after.0 × (after.1 ≡ Nothing)
IsMeantCut new (Ok (Some frame)) after = StandsFor new after.0 × IsFramed frame after.1
IsMeantCut new (Err Exhausted) after = StandsFor new after.0 × (after.1 ≡ NoNumber)
IsMeantCut new (Err Memory) after = ⊥
