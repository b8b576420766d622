-- What is held in a world: the deltas of its sites and of its frames; and how a world of operations grows.
use Rattle.std.specs.Prelude.{true, ℕ, ◌≡◌, ◌≤◌, ◌*◌, ◌++◌, List, ◌∷◌, Contains, Some, Ok, length, slice_get}
use Rattle.std.specs.FinMap as map
use Rattle.std.specs.FinSet as set
use Rattle.dots.specs.declared.calls.Calls.{Calls}
use Rattle.dots.specs.declared.member.Member.{Member}
use Rattle.operations.specs.Conditions.{IsConditionBelow}
use Rattle.operations.specs.Rows.{dots_of}
use Rattle.operations.specs.Totals.{totals_of}
use Rattle.dots.specs.Values.{Dot}
use Rattle.operations.specs.Knowledge.{Knowledge}
use Rattle.operations.specs.OperationLimits.{AreWithinLimits}
use Rattle.site_totals.specs.Raising.{number_of}
use Rattle.member_orset.specs.Members.{condition_of, dot_view_of}
use Rattle.delta.specs.DeltaStates.{DeltaState}
use Rattle.delta.specs.Joining.{DeltasAgree}
use Rattle.delta.specs.Standing.{IsDeltaOf}
use Rattle.delta.specs.declared.frame.Frame.{Frame}
use Rattle.replica.specs.Shows.{KnowsNonePast}
use Rattle.replica.specs.Site.{SiteState}
use Rattle.replica.specs.Steps.{SiteKnowledge}
use Rattle.replica.specs.Taking.{MayJoin}
use Rattle.sites_world.specs.Conditions.{EventsLead, EventLeads}
use Rattle.sites_world.specs.declared.event.Event.{Event}
use Rattle.sites_world.specs.declared.event.Event.TheVariants as event
use Rattle.sites_world.specs.declared.outcome.Outcome.{Outcome}
use Rattle.sites_world.specs.declared.outcome.Outcome.TheVariants.{Took}
use Rattle.sites_world.specs.Histories.{IsPartOf}
use Rattle.sites_world.specs.Promises.{members_seen}
use Rattle.sites_world.specs.SiteOutcomes.{MayBeTaken}
use Rattle.sites_world.specs.Worlds.{Entry, IsReached, World, happens, run}
use Rattle.sites_world.specs.WorldStates.{Correspond, IsSiteOf, IsWorld, WorldState}

-- ---- deltas

-- delta `d` is held in a world: it is the state of a site, or its buffer, or a frame of the pool says it
pub data IsHeldIn (state : WorldState) (d : DeltaState) : Type 0 where
  State : (site : ℕ) (s : SiteState) → slice_get state.sites site ≡ Some s → d ≡ s.state → IsHeldIn state d
  Pending : (site : ℕ) (s : SiteState) → slice_get state.sites site ≡ Some s → d ≡ s.pending → IsHeldIn state d
  Said : (place : ℕ) (frame : Frame) → slice_get state.pool place ≡ Some frame → d ≡ frame.delta → IsHeldIn state d

-- no two of `dots` are of one site
abbrev pub HasOneASite : List Dot → Type 0
HasOneASite dots = (dot other : Dot) → Contains dots dot → Contains dots other → dot.site ≡ other.site → dot ≡ other

-- in a delta that is held in a world no two live dots of a member are of one site
abbrev pub HoldOneDotASite : Type 0
HoldOneDotASite = (state : WorldState) (d : DeltaState) (m : Member) → IsWorld state → IsHeldIn state d → HasOneASite (dots_of (dot_view_of d.members) m)

-- a delta that a world holds has at most as many live dots as the world has sites, times the members with a live dot
abbrev pub HoldFewCells : Type 0
HoldFewCells = (state : WorldState) (d : DeltaState) → IsWorld state → IsHeldIn state d
    → map.len d.members.live ≤ set.len (members_seen (dot_view_of d.members)) * length state.sites

-- any two deltas that are held in one world agree
abbrev pub HeldAgree : Type 0
HeldAgree = (state : WorldState) (x y : DeltaState) → IsWorld state → IsHeldIn state x → IsHeldIn state y → DeltasAgree x y

-- a delta that is held in a world stands for operations that are all within their limits
abbrev pub HoldWithinLimits : Type 0
HoldWithinLimits = (state : WorldState) (d : DeltaState) → IsWorld state → IsHeldIn state d → (k : Knowledge) × IsDeltaOf d k × AreWithinLimits k

-- ---- own dots

-- in a world that events lead to no site knows a dot of its own past the last that it made
abbrev pub KnowNonePast : Type 0
KnowNonePast = (names : List (List ℕ)) (sites : ℕ) (w : World) (site : ℕ) (s : SiteKnowledge) → IsReached names sites w → slice_get w.sites site ≡ Some s → KnowsNonePast site s.known

-- ---- takes

-- each site of a world that events lead to may join each entry of the pool, limits of the join aside
abbrev pub MayTakeEntries : Type 0
MayTakeEntries = (names : List (List ℕ)) (sites : ℕ) (w : World) (site place : ℕ) (state : SiteState) (s : SiteKnowledge) (entry : Entry) → IsReached names sites w
    → slice_get w.sites site ≡ Some s → IsSiteOf names site state s → slice_get w.pool place ≡ Some entry → MayBeTaken state entry.carried

-- each site of a world may join each frame of the pool
abbrev pub MayJoinFrames : Type 0
MayJoinFrames = (state : WorldState) (site place : ℕ) (s : SiteState) (frame : Frame) → IsWorld state → slice_get state.sites site ≡ Some s
    → slice_get state.pool place ≡ Some frame → MayJoin s frame.delta

-- ---- later worlds

-- world `after` has grown from `w`: it has as many sites, each of which knows what it knew and has
-- made no fewer frames, and its pool begins with the same entries
pub record HasGrown (w after : World) : Type 0 where
  pub count : length after.sites ≡ length w.sites
  pub known : (site : ℕ) (s : SiteKnowledge) → slice_get w.sites site ≡ Some s
      → (t : SiteKnowledge) × (slice_get after.sites site ≡ Some t) × IsPartOf s.known t.known × (s.frames ≤ t.frames)
  pub added : List Entry
  pub pool : after.pool ≡ w.pool ++ added

-- an event leads from each world to one that has grown: each site still knows what it knew, and the pool keeps its entries
abbrev pub EventsGrow : Type 0
EventsGrow = (names : List (List ℕ)) (w : World) (e : Event) → HasGrown w (happens names w e).0

-- events in turn lead from each world to one that has grown: each site still knows what it knew, and the pool keeps its entries
abbrev pub RunsGrow : Type 0
RunsGrow = (names : List (List ℕ)) (w : World) (events : List Event) → HasGrown w (run names w events).0

-- a site that has taken an entry knows each operation of it, whatever events follow
abbrev pub TakenStaysKnown : Type 0
TakenStaysKnown = (names : List (List ℕ)) (w : World) (site place : ℕ) (entry : Entry) (later : List Event) (t : SiteKnowledge)
    → (happens names w (event.Take site place)).1 ≡ Took (Ok tt) → slice_get w.pool place ≡ Some entry
    → slice_get (run names w (event.Take site place ∷ later)).0.sites site ≡ Some t → IsPartOf entry.carried t.known

-- ---- growth, of states alone

-- delta `e` says all that `d` says: it knows each dot of it, has each dot's condition or one above,
-- so that a dead dot is dead there, and no total is less
pub record IsSaidBy (d e : DeltaState) : Type 0 where
  pub known : (dot : Dot) → set.contains d.members.known dot ≡ true → set.contains e.members.known dot ≡ true
  pub conditions : (dot : Dot) → IsConditionBelow (condition_of d.members dot) (condition_of e.members dot)
  pub totals : (site queue : ℕ) (calls : Calls) → number_of calls (totals_of d.totals.entries site queue) ≤ number_of calls (totals_of e.totals.entries site queue)

-- a site of the same number and queues says in state `new` all that it said in state `old`, and
-- none of its last numbers (of adds, times and frames) is less
pub record SiteGrows (old new : SiteState) : Type 0 where
  pub site : new.site ≡ old.site
  pub names : new.names ≡ old.names
  pub state : IsSaidBy old.state new.state
  pub last_count : old.last_count ≤ new.last_count
  pub last_time : old.last_time ≤ new.last_time
  pub frames : old.frames ≤ new.frames

-- from world `from` to `to` the sites are as many, with the same queues, each says all that it
-- said, and the pool keeps its frames
pub record StatesGrow (from to : WorldState) : Type 0 where
  pub names : to.names ≡ from.names
  pub sites : Correspond (λ site. SiteGrows) from.sites to.sites
  pub added : List Frame
  pub pool : to.pool ≡ from.pool ++ added

-- an event, with whatever outcome, leads to a world in which each site says all that it said, and
-- the pool keeps its frames
abbrev pub LeadsGrow : Type 0
LeadsGrow = (from to : WorldState) (e : Event) (o : Outcome) → EventLeads from e o to → StatesGrow from to

-- events in turn, with whatever outcomes, lead to a world in which each site says all that it said,
-- and the pool keeps its frames
abbrev pub LeadAllGrows : Type 0
LeadAllGrows = (from to : WorldState) (events : List Event) (outcomes : List Outcome) → EventsLead from events outcomes to → StatesGrow from to

-- a site that has taken a frame says all that the frame says, whatever events follow
abbrev pub TakenStaysSaid : Type 0
TakenStaysSaid = (from to : WorldState) (site place : ℕ) (frame : Frame) (new : SiteState) (later : List Event) (outcomes : List Outcome)
    → slice_get from.pool place ≡ Some frame → EventsLead from (event.Take site place ∷ later) (Took (Ok tt) ∷ outcomes) to → slice_get to.sites site ≡ Some new
    → IsSaidBy frame.delta new.state
