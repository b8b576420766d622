-- The text of a row.
use Rattle.std.specs.Prelude.{ℕ, ◌≡◌, ◌⊎◌, Bool, true, List, Some, None, codes}
use Rattle.delta.specs.declared.frame.Frame.{Frame}
use Rattle.delta_codec.specs.Frames.{Spells}
use Rattle.site_journal.specs.declared.step.Step.{Step}
use Rattle.site_journal.specs.declared.step.StepDeed.{StepDeed}
use Rattle.site_journal.specs.declared.step.StepDeed.TheVariants.{Asked, Took, Cut, Whole}
use Rattle.status_report.specs.declared.asks.Answer.{Answer}
use Rattle.status_report.specs.declared.asks.Answer.TheVariants.{Done}
use Rattle.status_report.specs.declared.asks.Ask.{Ask}
use Rattle.status_report.specs.declared.asks.Ask.TheVariants as ask
use Rattle.stored_steps.specs.declared.base.StoredBase.{StoredBase}
use Rattle.stored_steps.specs.Bases.{IsReadBase}
use Rattle.stored_steps.specs.StartRows.{is_start}
use Rattle.stored_steps.specs.StepRows.{IsWithinLimits, row_of}
use Rattle.stored_steps.specs.Stored.{Stored}
use Rattle.store_listing.specs.declared.frames.FrameSummary.{FrameSummary}
use Rattle.store_listing.specs.Lines.{ask_line, base_line, frame_lines, start_line, summary_of}

-- a summary is that of the frame that bytes are
pub record IsSummary (bytes : List ℕ) (summary : FrameSummary) : Type 0 where
  pub frame : Frame
  pub spelled : Spells frame bytes
  pub is : summary ≡ summary_of frame

-- a text is that of a start
pub record IsStartText (position : ℕ) (row : Stored) (text : List ℕ) : Type 0 where
  pub start : is_start row ≡ true
  pub is : text ≡ start_line position

-- a text is that of the base that a row says
pub record IsBaseText (position : ℕ) (row : Stored) (text : List ℕ) : Type 0 where
  pub base : StoredBase
  pub read : IsReadBase row base
  pub is : text ≡ base_line position base

-- a text is that of the frame that bytes are, which was moved as this word says
pub record IsFrameText (with_frames : Bool) (position pass : ℕ) (moved bytes text : List ℕ) : Type 0 where
  pub frame : Frame
  pub spelled : Spells frame bytes
  pub is : text ≡ frame_lines with_frames position pass moved frame bytes

-- a text is that of an ask: a command that is done
abbrev pub IsAskText : ℕ → ℕ → Ask → Answer → List ℕ → Type 0
IsAskText position pass (ask.Command command) Done text = text ≡ ask_line position pass command
IsAskText position pass asked answer text = ⊥

-- a text is that of a deed
abbrev pub IsDeedText : Bool → ℕ → ℕ → StepDeed → List ℕ → Type 0
IsDeedText with_frames position pass (Asked asked answer) text = IsAskText position pass asked answer text
IsDeedText with_frames position pass (Took bytes) text = IsFrameText with_frames position pass (codes "take") bytes text
IsDeedText with_frames position pass (Cut None) text = ⊥
IsDeedText with_frames position pass (Cut (Some bytes)) text = IsFrameText with_frames position pass (codes "cut") bytes text
IsDeedText with_frames position pass (Whole bytes) text = IsFrameText with_frames position pass (codes "whole") bytes text

-- a text is that of the step that a row stands for
pub record IsStepText (with_frames : Bool) (position : ℕ) (row : Stored) (text : List ℕ) : Type 0 where
  pub step : Step
  pub row_is : row_of step ≡ Some row
  pub within : IsWithinLimits step
  pub deed : IsDeedText with_frames position step.pass step.deed text

-- a text is that of a row: a start, a base, or a step
abbrev pub IsRowText : Bool → ℕ → Stored → List ℕ → Type 0
IsRowText with_frames position row text = IsStartText position row text ⊎ IsBaseText position row text ⊎ IsStepText with_frames position row text
