-- The causes for which a site refuses a frame of another site, and the site's state after it has taken one.
use Rattle.std.specs.Prelude.{ℕ, ⊤, ◌≡◌, ◌<◌, ◌≤◌, ◌↔◌, ◌⊎◌, true, Option, Some, Result, Ok, Err, length}
use Rattle.std.specs.FinMap as map
use Rattle.std.specs.FinSet as set
use Rattle.dots.specs.declared.call_totals.CallTotals.{CallTotals}
use Rattle.dots.specs.declared.calls.Calls.{Calls}
use Rattle.dots.specs.declared.limits.TheConstants.{MOST_LIVE, MOST_RUNS}
use Rattle.dots.specs.Values.{Dot}
use Rattle.dots.specs.Orders.{dot_cmp}
use Rattle.operations.specs.Registers.{Entry}
use Rattle.operations.specs.Conditions.{DotFields}
use Rattle.operations.specs.Knowledge.{Knowledge}
use Rattle.operations.specs.Totals.{Entries, Key, totals_of}
use Rattle.member_orset.specs.Members.{Holding, KeepsIds, Members, cells_joined, runs_joined}
use Rattle.member_orset.specs.declared.join_fault.JoinFault.{JoinFault}
use Rattle.member_orset.specs.declared.join_fault.JoinFault.TheVariants as join
use Rattle.site_totals.specs.Raising.{number_of}
use Rattle.delta.specs.DeltaStates.{DeltaState}
use Rattle.delta.specs.Joining.{DeltasAgree, DeltasInConflict, IsJoinOf}
use Rattle.delta.specs.declared.frame.Frame.{Frame}
use Rattle.replica.specs.declared.take_fault.TakeFault.{TakeFault}
use Rattle.replica.specs.declared.take_fault.TakeFault.TheVariants.{NoSuchQueue, NotMine, Conflict, CellsFull, RunsFull, Memory}
use Rattle.replica.specs.Site.{SiteState}
use Rattle.replica.specs.SiteViews.{count_used, greatest, time_used}
use Rattle.replica.specs.Standing.{StandsFor}
use Rattle.replica.specs.Steps as steps
use Rattle.replica.specs.Steps.{Outcome, SiteKnowledge, Taken}

-- ---- what every site refuses

-- some live dot is of a member in a queue whose number isn't below this one
pub record HasStrangeMember (queues : ℕ) (members : Members) : Type 0 where
  pub dot : Dot
  pub held : Holding
  pub live : map.get members.live dot ≡ Some held
  pub strange : queues ≤ held.0.queue

-- some total is of a queue whose number isn't below this one
pub record HasStrangeTotal (queues : ℕ) (entries : Entries) : Type 0 where
  pub key : Key
  pub totals : CallTotals
  pub counted : map.get entries key ≡ Some totals
  pub strange : queues ≤ key.queue

-- a delta has a live dot or a total of a queue whose number isn't below this one
abbrev pub SpeaksOfStrangeQueue : ℕ → DeltaState → Type 0
SpeaksOfStrangeQueue queues d = HasStrangeMember queues d.members ⊎ HasStrangeTotal queues d.totals.entries

-- ---- what a site hasn't made

-- some dot of a site, live or dead, is of a count past its last one
pub record HasDotPast (site last : ℕ) (known : set.FinSet dot_cmp) : Type 0 where
  pub count : ℕ
  pub known_dot : set.contains known (record { site = site; count = count }) ≡ true
  pub past : last < count

-- a field was written by a site at a time past its last one
pub record IsWrittenPast {T : Type 0} (site last : ℕ) (field : Option (Entry T)) : Type 0 where
  pub entry : Entry T
  pub set : field ≡ Some entry
  pub own : entry.stamp.site ≡ site
  pub past : last < entry.stamp.time

-- the site wrote one of a dot's fields past its last time
abbrev pub HasFieldPast : ℕ → ℕ → DotFields → Type 0
HasFieldPast site last fields =
    IsWrittenPast site last fields.penalty
    ⊎ IsWrittenPast site last fields.pause
    ⊎ IsWrittenPast site last fields.label
    ⊎ IsWrittenPast site last fields.ring

-- some live dot has a field that the site wrote past its last time
pub record HasStampPast (site last : ℕ) (members : Members) : Type 0 where
  pub dot : Dot
  pub held : Holding
  pub live : map.get members.live dot ≡ Some held
  pub past : HasFieldPast site last held.1

-- a set of members has a dot past the site's last count, or a field past its last time
abbrev pub HasMemberPast : ℕ → ℕ → ℕ → Members → Type 0
HasMemberPast site count time members = HasDotPast site count members.known ⊎ HasStampPast site time members

-- one of two totals is greater than the site's own one
abbrev pub CountsMore : CallTotals → CallTotals → Type 0
CountsMore own totals = (own.completed < totals.completed) ⊎ (own.abandoned < totals.abandoned)

-- an entry is of a site, and one of its totals is greater than the site's own
abbrev pub IsEntryPast : ℕ → Entries → Key → CallTotals → Type 0
IsEntryPast site own key totals = (key.site ≡ site) × CountsMore (totals_of own site key.queue) totals

-- some total of a site is greater than its own
pub record HasTotalPast (site : ℕ) (own entries : Entries) : Type 0 where
  pub queue : ℕ
  pub calls : Calls
  pub past : number_of calls (totals_of own site queue) < number_of calls (totals_of entries site queue)

-- a delta has a dot, a write or a call of a site that the site hasn't made
abbrev pub IsNotMine : SiteState → DeltaState → Type 0
IsNotMine s d = HasMemberPast s.site s.last_count s.last_time d.members ⊎ HasTotalPast s.site s.state.totals.entries d.totals.entries

-- ---- the refusals, in order

-- a site may hear a delta: the delta has only the site's queues, and nothing of the site that the site hasn't made
pub record MayHear (s : SiteState) (d : DeltaState) : Type 0 where
  pub queues : SpeaksOfStrangeQueue (length s.names) d → ⊥
  pub own : IsNotMine s d → ⊥

-- a site may join a delta: the site may hear it, and its state agrees with it
pub record MayJoin (s : SiteState) (d : DeltaState) : Type 0 where
  pub hears : MayHear s d
  pub agree : DeltasAgree s.state d

-- a site may take a delta: it may join it, and the join has few enough live dots and runs
pub record MayTake (s : SiteState) (d : DeltaState) : Type 0 where
  pub joins : MayJoin s d
  pub cells : cells_joined s.state.members d.members ≤ MOST_LIVE
  pub runs : runs_joined s.state.members d.members ≤ MOST_RUNS

-- The refusals of a frame with this delta. Each is returned exactly for its cause, if no cause before it applies.
pub record IsRefusedTake (s : SiteState) (d : DeltaState) (IsRefused : TakeFault → Type 0) : Type 0 where
  pub no_such_queue : IsRefused NoSuchQueue ↔ SpeaksOfStrangeQueue (length s.names) d
  pub not_mine : IsRefused NotMine ↔ ((SpeaksOfStrangeQueue (length s.names) d → ⊥) × IsNotMine s d)
  pub conflict : IsRefused Conflict ↔ (MayHear s d × DeltasInConflict s.state d)
  pub cells_full : IsRefused CellsFull
      ↔ (MayJoin s d × (MOST_LIVE < cells_joined s.state.members d.members))
  pub runs_full : IsRefused RunsFull
      ↔ (MayJoin s d
      × (cells_joined s.state.members d.members ≤ MOST_LIVE)
      × (MOST_RUNS < runs_joined s.state.members d.members))

-- the fault of a take for a delta that can't be joined
abbrev pub take_fault_of : JoinFault → TakeFault
take_fault_of join.Conflict = Conflict
take_fault_of join.CellsFull = CellsFull
take_fault_of join.RunsFull = RunsFull
take_fault_of join.Memory = Memory

-- a take was refused for this cause, and returned the frame
abbrev pub IsRefusedFor : Result (Unit {0}) (TakeFault × Frame) → TakeFault → Type 0
IsRefusedFor (Ok u) fault = ⊥
IsRefusedFor (Err refused) fault = refused.0 ≡ fault

-- ---- the result of a take

-- a site has taken a delta: its state is joined with it, each dot keeps its id, and all else is as before
pub record HasTakenDelta (old : SiteState) (d : DeltaState) (new : SiteState) : Type 0 where
  pub site : new.site ≡ old.site
  pub names : new.names ≡ old.names
  pub state : IsJoinOf old.state d new.state
  pub ids : KeepsIds old.state.members new.state.members
  pub pending : new.pending ≡ old.pending
  pub last_count : new.last_count ≡ old.last_count
  pub last_time : new.last_time ≡ old.last_time
  pub frames : new.frames ≡ old.frames

-- what a frame carries has no count and no time of a site past the site's last ones
pub record HasNoneLater (s : SiteState) (k : Knowledge) : Type 0 where
  pub counts : greatest (count_used s.site) k ≤ s.last_count
  pub times : greatest (time_used s.site) k ≤ s.last_time

-- a refusal is that of the meaning; the meaning leaves all causes but these two open
abbrev pub IsMeantFault : TakeFault → Outcome → Type 0
IsMeantFault NoSuchQueue outcome = ⊤
IsMeantFault NotMine outcome = ⊤
IsMeantFault Conflict outcome = ⊤
IsMeantFault CellsFull outcome = outcome ≡ steps.CellsFull
IsMeantFault RunsFull outcome = outcome ≡ steps.RunsFull
IsMeantFault Memory outcome = ⊤

-- the result of a take is that of its meaning, given the site after it and the outcome by the meaning
abbrev pub IsMeantTake : SiteState → Result (Unit {0}) (TakeFault × Frame) → SiteKnowledge × Outcome → Type 0
IsMeantTake new (Ok u) after = StandsFor new after.0 × (after.1 ≡ Taken)
IsMeantTake new (Err refused) after = IsMeantFault refused.0 after.1
