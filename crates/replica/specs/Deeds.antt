-- Deeds: what was done at a site, by its state before and after it alone.
use Rattle.std.specs.Prelude.{◌≡◌, ◌<◌}
use Rattle.dots.specs.declared.limits.TheConstants.{MOST_COUNT}
use Rattle.delta.specs.DeltaStates.{DeltaState, IsEmpty}
use Rattle.delta.specs.declared.frame.Frame.{Frame}
use Rattle.replica.specs.Framing.{HasCopied, HasCut}
use Rattle.replica.specs.Site.{SiteState}
use Rattle.replica.specs.Taking.{HasTakenDelta, MayTake}

-- a site knows nothing, and has used no number
pub record IsNew (s : SiteState) : Type 0 where
  pub state : IsEmpty s.state
  pub pending : IsEmpty s.pending
  pub last_count : s.last_count ≡ 0
  pub last_time : s.last_time ≡ 0
  pub frames : s.frames ≡ 0

-- a site has cut this frame: its buffer wasn't empty, and a number was left
pub record IsCutDeed (old : SiteState) (frame : Frame) (new : SiteState) : Type 0 where
  pub some : IsEmpty old.pending → ⊥
  pub left : old.frames < MOST_COUNT
  pub made : HasCut old frame new

-- a site has made this frame of all that it knows: a number was left
pub record IsWholeDeed (old : SiteState) (frame : Frame) (new : SiteState) : Type 0 where
  pub left : old.frames < MOST_COUNT
  pub made : HasCopied old frame new

-- a site has taken this delta, which it may take
pub record IsTakeDeed (old : SiteState) (d : DeltaState) (new : SiteState) : Type 0 where
  pub may : MayTake old d
  pub taken : HasTakenDelta old d new
