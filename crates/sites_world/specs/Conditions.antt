-- The effect of events, by conditions alone: by the states of sites and the frames of the pool before and after them.
use Rattle.std.specs.Prelude.{ℕ, ◌≡◌, ◌<◌, ◌≤◌, ⊤, List, [], ◌∷◌, ◌++◌, Option, Some, None, Result, Ok, Err, length, slice_get, slice_set}
use Rattle.dots.specs.declared.limits.TheConstants.{MOST_COUNT, MOST_LIVE, MOST_RUNS}
use Rattle.member_orset.specs.Members.{cells_joined, runs_joined}
use Rattle.delta.specs.DeltaStates.{DeltaState, IsEmpty, IsSame}
use Rattle.delta.specs.declared.frame.Frame.{Frame}
use Rattle.replica.specs.declared.cut_fault.CutFault.TheVariants.{Exhausted}
use Rattle.replica.specs.declared.refusal.Refusal.{Refusal}
use Rattle.replica.specs.declared.take_fault.TakeFault.TheVariants as take_fault
use Rattle.replica.specs.Changes.{change_of}
use Rattle.replica.specs.Commands.{Follows, MayWantMemory}
use Rattle.replica.specs.Deeds.{IsCutDeed, IsTakeDeed, IsWholeDeed}
use Rattle.replica.specs.Site.{IsUnchanged, SiteState, meaning_at}
use Rattle.replica.specs.Taking.{MayJoin}
use Rattle.status_report.specs.declared.asks.Answer.TheVariants.{Report}
use Rattle.status_report.specs.declared.asks.Ask.{Ask}
use Rattle.status_report.specs.declared.asks.Ask.TheVariants.{Command as asked_command, Status}
use Rattle.status_report.specs.Answers.{answer_of}
use Rattle.status_report.specs.Status.{report_of}
use Rattle.sites_world.specs.declared.event.Event.{Event}
use Rattle.sites_world.specs.declared.event.Event.TheVariants as event
use Rattle.sites_world.specs.declared.outcome.Outcome.{Outcome}
use Rattle.sites_world.specs.declared.outcome.Outcome.TheVariants.{Answered, Cut, NoEntry, NoMemory, NoSite, Took}
use Rattle.sites_world.specs.Worlds.{site_of}
use Rattle.sites_world.specs.WorldStates.{WorldState}

-- ---- at one site

-- an ask leads a site from its state `old` to `new`: a command does what it means, and a status gives the report of `old`; or it
-- runs out of memory and the site says what it said, a command only where its meaning takes memory
abbrev pub ComesOfAsk : SiteState → Ask → Outcome → SiteState → Type 0
ComesOfAsk old (asked_command command) (Answered answer) new =
    (result : Result (Unit {0}) Refusal) × (answer ≡ answer_of result) × Follows old (meaning_at old (change_of command)) new result
ComesOfAsk old (Status request) (Answered answer) new = (answer ≡ Report (report_of old request)) × (new ≡ old)
ComesOfAsk old (asked_command command) NoMemory new = IsUnchanged old new × MayWantMemory (meaning_at old (change_of command))
ComesOfAsk old (Status request) NoMemory new = IsUnchanged old new
ComesOfAsk old asked other new = ⊥

-- a cut leads a site from its state `old` to `new`, and puts the frames `added` after the pool's `entries` entries: the buffer's
-- frame, or none where the buffer is empty, no number is left or the site is out of memory
abbrev pub ComesOfCut : ℕ → SiteState → Outcome → SiteState → List Frame → Type 0
ComesOfCut entries old (Cut (Ok None)) new added = IsEmpty old.pending × (new ≡ old) × (added ≡ [])
ComesOfCut entries old (Cut (Ok (Some place))) new added = (place ≡ entries) × (frame : Frame) × (added ≡ frame ∷ []) × IsCutDeed old frame new
ComesOfCut entries old (Cut (Err fault)) new added = (fault ≡ Exhausted) × (IsEmpty old.pending → ⊥) × (old.frames ≡ MOST_COUNT) × (new ≡ old) × (added ≡ [])
ComesOfCut entries old NoMemory new added = (new ≡ old) × (added ≡ [])
ComesOfCut entries old other new added = ⊥

-- a whole leads a site from its state `old` to `new`, and puts the frames `added` after the pool's `entries` entries: a frame of
-- all that the site knows, or none where no number is left or the site is out of memory
abbrev pub ComesOfWhole : ℕ → SiteState → Outcome → SiteState → List Frame → Type 0
ComesOfWhole entries old (Cut (Ok (Some place))) new added = (place ≡ entries) × (frame : Frame) × (added ≡ frame ∷ []) × IsWholeDeed old frame new
ComesOfWhole entries old (Cut (Err fault)) new added = (fault ≡ Exhausted) × (old.frames ≡ MOST_COUNT) × (new ≡ old) × (added ≡ [])
ComesOfWhole entries old NoMemory new added = (new ≡ old) × (added ≡ [])
ComesOfWhole entries old other new added = ⊥

-- a site in state `s` has a frame to cut: its buffer isn't empty, and a number is left
abbrev pub HasFrameToCut : SiteState → Type 0
HasFrameToCut s = (IsEmpty s.pending → ⊥) × (s.frames < MOST_COUNT)

-- where event `e` is a cut or a whole, its site in state `s` has a frame to make, and a number is left
abbrev pub HasFrameToMake : Event → SiteState → Type 0
HasFrameToMake (event.Ask site asked) s = ⊤
HasFrameToMake (event.Cut site) s = HasFrameToCut s
HasFrameToMake (event.Whole site) s = s.frames < MOST_COUNT
HasFrameToMake (event.Take site place) s = ⊤

-- the take of delta `d` leads a site from its state `old` to `new`: it joins `d`; or it would exceed the limit of live dots or else
-- of runs, or is out of memory, and the site says what it said
abbrev pub ComesOfDelta : SiteState → DeltaState → Outcome → SiteState → Type 0
ComesOfDelta old d (Took (Ok u)) new = IsTakeDeed old d new
ComesOfDelta old d (Took (Err take_fault.CellsFull)) new = MayJoin old d × (MOST_LIVE < cells_joined old.state.members d.members) × IsUnchanged old new
ComesOfDelta old d (Took (Err take_fault.RunsFull)) new =
    MayJoin old d × (cells_joined old.state.members d.members ≤ MOST_LIVE) × (MOST_RUNS < runs_joined old.state.members d.members) × IsUnchanged old new
ComesOfDelta old d NoMemory new = IsUnchanged old new
ComesOfDelta old d other new = ⊥

-- the take of an entry's frame leads a site from its state `old` to `new`, as the take of a copy of
-- its delta does; where there is no such entry, the outcome is `NoEntry` and nothing is changed
abbrev pub ComesOfEntry : Option Frame → SiteState → Outcome → SiteState → Type 0
ComesOfEntry None old o new = (o ≡ NoEntry) × (new ≡ old)
ComesOfEntry (Some frame) old o new = (copy : DeltaState) × IsSame frame.delta copy × ComesOfDelta old copy o new

-- an event with outcome `o` leads its site from state `old` to `new`, and puts the frames `added` after those of `pool`
abbrev pub ComesAt : List Frame → SiteState → Event → Outcome → SiteState → List Frame → Type 0
ComesAt pool old (event.Ask site asked) o new added = ComesOfAsk old asked o new × (added ≡ [])
ComesAt pool old (event.Cut site) o new added = ComesOfCut (length pool) old o new added
ComesAt pool old (event.Whole site) o new added = ComesOfWhole (length pool) old o new added
ComesAt pool old (event.Take site place) o new added = ComesOfEntry (slice_get pool place) old o new × (added ≡ [])

-- pool `grown` is `pool` with further frames at its end, of which `Holds` is true
pub record GrowsBy (Holds : List Frame → Type 0) (pool grown : List Frame) : Type 0 where
  pub added : List Frame
  pub comes : Holds added
  pub is : grown ≡ pool ++ added

-- ---- in a world

-- event `e` with outcome `o` leads from world `from` to world `to`: its site from state `old` to
-- `new`, and all others stay as they were
pub record LeadsAt (from : WorldState) (e : Event) (o : Outcome) (to : WorldState) (old : SiteState) : Type 0 where
  pub new : SiteState
  pub comes : GrowsBy (ComesAt from.pool old e o new) from.pool to.pool
  pub sites : to.sites ≡ slice_set from.sites (site_of e) new
  pub names : to.names ≡ from.names

-- event `e` with outcome `o` leads from one world to another, its site being in the state that is
-- given; where there is no such site, the outcome is `NoSite` and nothing is changed
abbrev pub LeadsWhere : WorldState → Event → Outcome → WorldState → Option SiteState → Type 0
LeadsWhere from e o to None = (o ≡ NoSite) × (to ≡ from)
LeadsWhere from e o to (Some old) = LeadsAt from e o to old

-- event `e` with outcome `o` leads from world `from` to world `to`, by its conditions at its site, or by `NoSite` where there is no
-- such site
abbrev pub EventLeads : WorldState → Event → Outcome → WorldState → Type 0
EventLeads from e o to = LeadsWhere from e o to (slice_get from.sites (site_of e))

-- events, in order, with one outcome each, lead from world `from` to world `to`
abbrev pub EventsLead : WorldState → List Event → List Outcome → WorldState → Type 0
EventsLead from [] [] to = to ≡ from
EventsLead from (e ∷ es) (o ∷ os) to = (mid : WorldState) × EventLeads from e o mid × EventsLead mid es os to
EventsLead from es os to = ⊥
