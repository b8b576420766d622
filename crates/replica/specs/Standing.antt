-- What a replica stands for: what a site knows, what it has in its buffer, and its last numbers.
use Rattle.std.specs.Prelude.{◌≡◌, ◌⊎◌, Result, Ok, Err}
use Rattle.operations.specs.Traces.{LeaveTraces}
use Rattle.delta.specs.Standing.{IsDeltaOf}
use Rattle.replica.specs.declared.refusal.Refusal.{Refusal}
use Rattle.replica.specs.declared.refusal.Refusal.TheVariants.{Memory}
use Rattle.replica.specs.SiteViews.{greatest, count_used, time_used}
use Rattle.replica.specs.Site.{SiteState, IsUnchanged}
use Rattle.replica.specs.Steps.{SiteKnowledge, Outcome, Denied}

-- A state stands for what a site knows: its deltas are those of the knowledge and of the buffer, each operation of which leaves a
-- trace; its last count and time are the greatest that the site used, and it has made as many frames.
pub record StandsFor (state : SiteState) (s : SiteKnowledge) : Type 0 where
  pub known : IsDeltaOf state.state s.known
  pub buffer : IsDeltaOf state.pending s.buffer
  pub traces : LeaveTraces s.buffer
  pub last_count : greatest (count_used state.site) s.known ≡ state.last_count
  pub last_time : greatest (time_used state.site) s.known ≡ state.last_time
  pub frames : s.frames ≡ state.frames

-- the result of a command with this outcome
abbrev pub result_of : Outcome → Result (Unit {0}) Refusal
result_of (Denied refusal) = Err refusal
result_of outcome = Ok tt

-- A result and the state after it are those of a command's meaning, given the site after it and its outcome by the meaning; or out
-- of memory, and nothing is changed.
abbrev pub IsMeant : SiteState → SiteState → Result (Unit {0}) Refusal → SiteKnowledge × Outcome → Type 0
IsMeant old new result after = (StandsFor new after.0 × (result ≡ result_of after.1)) ⊎ (IsUnchanged old new × (result ≡ Err Memory))
