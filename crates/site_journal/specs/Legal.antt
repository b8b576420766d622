-- Legal journals: steps that lead from one state of a site to another, each by its meaning there.
use Rattle.std.specs.Prelude.{◌≡◌, ◌≢◌, List, [], ◌∷◌, ℕ, Some, None, Result, Err}
use Rattle.delta.specs.DeltaStates.{IsEmpty}
use Rattle.delta.specs.declared.frame.Frame.{Frame}
use Rattle.delta_codec.specs.Frames.{Spells, SpellsIn}
use Rattle.delta_codec.specs.declared.limits.TheConstants.{VERSION}
use Rattle.replica.specs.declared.refusal.Refusal.{Refusal}
use Rattle.replica.specs.declared.refusal.Refusal.TheVariants.{Memory}
use Rattle.replica.specs.Changes.{change_of}
use Rattle.replica.specs.Commands.{IsDone}
use Rattle.replica.specs.Deeds.{IsCutDeed, IsTakeDeed, IsWholeDeed}
use Rattle.replica.specs.Site.{IsSameSite, SiteState, meaning_at}
use Rattle.status_report.specs.Answers.{answer_of}
use Rattle.status_report.specs.Status.{report_of}
use Rattle.status_report.specs.declared.asks.Answer.{Answer}
use Rattle.status_report.specs.declared.asks.Answer.TheVariants.{Report}
use Rattle.status_report.specs.declared.asks.Ask.{Ask}
use Rattle.status_report.specs.declared.asks.Ask.TheVariants.{Command as asked_command, Status}
use Rattle.site_journal.specs.declared.step.Step.{Step}
use Rattle.site_journal.specs.declared.step.StepDeed.{StepDeed}
use Rattle.site_journal.specs.declared.step.StepDeed.TheVariants.{Asked, Took, Cut, Whole}

-- an answer to an ask led a site from state `old` to `new`: a command by its meaning there, and never refused as out of memory; a
-- status by its report, which changes nothing
abbrev pub IsAsked : SiteState → Ask → Answer → SiteState → Type 0
IsAsked old (asked_command command) answer new =
    (result : Result (Unit {0}) Refusal) × (answer ≡ answer_of result) × (result ≢ Err Memory) × IsDone old (meaning_at old (change_of command)) new result
IsAsked old (Status request) answer new = (answer ≡ Report (report_of old request)) × IsSameSite old new

-- a frame that `bytes` spell, in either version, was taken, which led a site from state `old` to `new`
pub record IsTook (old : SiteState) (bytes : List ℕ) (new : SiteState) : Type 0 where
  pub frame : Frame
  pub spelled : Spells frame bytes
  pub done : IsTakeDeed old frame.delta new

-- the buffer was put into a frame that `bytes` spell, in the version that is written, which led a
-- site from state `old` to `new`
pub record IsCut (old : SiteState) (bytes : List ℕ) (new : SiteState) : Type 0 where
  pub frame : Frame
  pub spelled : SpellsIn VERSION frame bytes
  pub done : IsCutDeed old frame new

-- all that a site knows was put into a frame that `bytes` spell, in the version that is written,
-- which led it from state `old` to `new`
pub record IsWhole (old : SiteState) (bytes : List ℕ) (new : SiteState) : Type 0 where
  pub frame : Frame
  pub spelled : SpellsIn VERSION frame bytes
  pub done : IsWholeDeed old frame new

-- a deed is legal at a site in state `old`, and leads it to state `new`
abbrev pub IsDeed : SiteState → StepDeed → SiteState → Type 0
IsDeed old (Asked asked answer) new = IsAsked old asked answer new
IsDeed old (Took bytes) new = IsTook old bytes new
IsDeed old (Cut None) new = IsEmpty old.pending × IsSameSite old new
IsDeed old (Cut (Some bytes)) new = IsCut old bytes new
IsDeed old (Whole bytes) new = IsWhole old bytes new

-- `deed` leads a site from state `from` to state `to`, whatever room these have
pub record Leads (from : SiteState) (deed : StepDeed) (to : SiteState) : Type 0 where
  pub old : SiteState
  pub new : SiteState
  pub before : IsSameSite from old
  pub done : IsDeed old deed new
  pub after : IsSameSite new to

-- steps, one after another, lead a site from state `from` to state `to`, whatever room these have
abbrev pub LeadAll : SiteState → List Step → SiteState → Type 0
LeadAll from [] to = IsSameSite from to
LeadAll from (step ∷ steps) to = (mid : SiteState) × Leads from step.deed mid × LeadAll mid steps to
