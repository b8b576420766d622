-- What contracts see of the sites of one process: their states and the frames in the pool, and which world of operations they stand for.
use Rattle.delta.specs.Frames.{IsInRanges}
use Rattle.std.specs.Prelude.{ℕ, ◌≡◌, ◌≤◌, ◌⊎◌, true, List, Some, length, slice_get, refl, ◌∷◌, if◌then◌else◌, Bool, ◌&&◌}
use Rattle.std.specs.Coded.{Coded, code_by, coded×, coded_ℕ, coded_list}
use Rattle.dots.specs.declared.limits.TheConstants.{SITES}
use Rattle.delta.specs.DeltaStates.{DeltaState, delta_code}
use Rattle.delta.specs.Standing.{IsDeltaOf}
use Rattle.delta.specs.declared.frame.Frame.{Frame}
use Rattle.replica.specs.Queues.{AreQueues}
use Rattle.replica.specs.Site as replica
use Rattle.replica.specs.Site.{SiteState, site_code}
use Rattle.replica.specs.Standing.{StandsFor}
use Rattle.replica.specs.Steps.{SiteKnowledge}
use Rattle.sites_world.specs.declared.event.Event.{Event}
use Rattle.sites_world.specs.declared.outcome.Outcome.{Outcome}
use Rattle.sites_world.specs.declared.outcome.Outcome.TheVariants.{NoMemory}
use Rattle.sites_world.specs.WithinLimits.{KnowsWithinLimits}
use Rattle.sites_world.specs.Worlds.{Entry, IsReached, World, done_of, happens, is_done, outcomes_of, run, is_there}

-- the state of all sites of one process: the names of the queues, the sites by their numbers, and
-- the frames in the pool
pub record WorldState : Type 0 where
  pub names : List (List ℕ)
  pub sites : List SiteState
  pub pool : List Frame

-- a frame is stored as the tuple of its maker, its number and its delta
abbrev pub frame_code : Coded Frame
frame_code = code_by (ℕ × (ℕ × DeltaState)) (coded× coded_ℕ (coded× coded_ℕ delta_code)) (λ f. (f.maker, (f.number, f.delta)))
    (λ p. record { maker = p.0; number = p.1.0; delta = p.1.1 }) (λ _. refl)

-- the state of all sites is stored as the tuple of its names, sites and frames
abbrev pub world_code : Coded WorldState
world_code = code_by (List (List ℕ) × (List SiteState × List Frame)) (coded× (coded_list (coded_list coded_ℕ)) (coded× (coded_list site_code) (coded_list frame_code)))
    (λ w. (w.names, (w.sites, w.pool))) (λ p. record { names = p.0; sites = p.1.0; pool = p.1.1 }) (λ _. refl)

-- `state` is that of the site of the number `number`, with the queues `names`, and stands for `s`,
-- what the site knows
pub record IsSiteOf (names : List (List ℕ)) (number : ℕ) (state : SiteState) (s : SiteKnowledge) : Type 0 where
  pub site : state.site ≡ number
  pub names_are : state.names ≡ names
  pub stands : StandsFor state s

-- `frame` is that of `entry`: it has its maker and number, its delta is the one of what the entry
-- carries, and it is within the ranges of the format
pub record IsFrameOf (place : ℕ) (frame : Frame) (entry : Entry) : Type 0 where
  pub maker : frame.maker ≡ entry.maker
  pub number : frame.number ≡ entry.number
  pub delta : IsDeltaOf frame.delta entry.carried
  pub ranges : IsInRanges frame

-- no place of a site's state or of its buffer is retired
pub record HasNoneRetired (state : SiteState) : Type 0 where
  pub state_is : state.state.members.retired ≡ 0
  pub pending_is : state.pending.members.retired ≡ 0

-- lists `xs` and `ys` correspond: they are of one length, and elements at one place are related by `R`
pub record Correspond {X Y : Type 0} (R : ℕ → X → Y → Type 0) (xs : List X) (ys : List Y) : Type 0 where
  pub lengths : length xs ≡ length ys
  pub each : (place : ℕ) (x : X) (y : Y) → slice_get xs place ≡ Some x → slice_get ys place ≡ Some y → R place x y

-- from `old` to `new` each site says the same as before, and the queues and the frames are the same
pub record IsUnchanged (old new : WorldState) : Type 0 where
  pub names : new.names ≡ old.names
  pub sites : Correspond (λ site. replica.IsUnchanged) old.sites new.sites
  pub pool : new.pool ≡ old.pool

-- the states and frames of `state` stand for the world of operations `w`: each site for what it
-- knows there, and each frame for its entry
pub record StandsForWorld (state : WorldState) (w : World) : Type 0 where
  pub sites : Correspond (IsSiteOf state.names) state.sites w.sites
  pub pool : Correspond IsFrameOf state.pool w.pool

-- `state` stands for a world that events lead to, of at most 64 sites, with a queue list, whose
-- operations are all within limits
pub record IsWorld (state : WorldState) : Type 0 where
  pub queues : AreQueues state.names
  pub few : length state.sites ≤ SITES
  pub world : World
  pub reached : IsReached state.names (length state.sites) world
  pub within : KnowsWithinLimits world
  pub stands : StandsForWorld state world

-- event `e` has happened in world `w`: `o` is its outcome in the world of operations, and `new` stands for the world after it; or
-- it ran out of memory at a site that is there, for an entry that is, and `new` still stands for `w`
abbrev pub HasHappened : WorldState → World → Event → Outcome → Type 0
HasHappened new w e o = ((is_done o ≡ true) × ((happens new.names w e).1 ≡ o) × StandsForWorld new (happens new.names w e).0) ⊎ ((o ≡ NoMemory) × (is_there w e ≡ true) × StandsForWorld new w)

-- whether each event that ran out of memory has its site, and its entry if it takes one, in the world that the events done before
-- it lead to
abbrev pub are_there : List (List ℕ) → World → List Event → List Outcome → Bool
are_there names w (e ∷ es) (o ∷ os) = if is_done o then are_there names (happens names w e).0 es os else is_there w e && are_there names w es os
are_there names w es os = true

-- events have happened in world `w`, with one outcome each: those that didn't run out of memory have the outcomes of the world of
-- operations, and `new` stands for the world after these; the others have their site and entry
pub record HaveHappened (new : WorldState) (w : World) (events : List Event) (outcomes : List Outcome) : Type 0 where
  pub one_each : length outcomes ≡ length events
  pub there : are_there new.names w events outcomes ≡ true
  pub outcomes_are : outcomes_of outcomes ≡ (run new.names w (done_of events outcomes)).1
  pub stands : StandsForWorld new (run new.names w (done_of events outcomes)).0
