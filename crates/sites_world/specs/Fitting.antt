-- What is small enough for a frame in a world, and that each entry fits in one.
use Rattle.std.specs.Prelude.{ℕ, ◌≡◌, ◌<◌, ◌≤◌, List, Contains, Some, length, slice_get}
use Rattle.dots.specs.declared.limits.TheConstants.{SITES}
use Rattle.dots.specs.Values.{IsCount, IsSite}
use Rattle.operations.specs.FrameLimits.{FitsInFrame, IsSmallEnough}
use Rattle.operations.specs.Knowledge.{Knowledge}
use Rattle.delta.specs.declared.frame.Frame.{Frame}
use Rattle.delta.specs.DeltaStates.{DeltaState}
use Rattle.delta.specs.Standing.{IsDeltaOf}
use Rattle.replica.specs.FrameSteps.{IsSmallSite}
use Rattle.replica.specs.Steps.{SiteKnowledge}
use Rattle.sites_world.specs.Holding.{IsHeldIn}
use Rattle.sites_world.specs.WithinLimits.{KnowsWithinLimits}
use Rattle.sites_world.specs.WorldStates.{IsFrameOf, IsWorld, WorldState}
use Rattle.sites_world.specs.Worlds.{Entry, IsReached, World}

-- an entry is small: it carries what is small enough for a frame, its maker is one of the sites, and its number is one of a frame
pub record IsSmallEntry (sites : ℕ) (entry : Entry) : Type 0 where
  pub maker : entry.maker < sites
  pub number : IsCount entry.number
  pub carried : IsSmallEnough entry.carried

-- world `w` has `sites` sites, and what each of them knows, and each entry, is small enough for a frame
pub record IsSmallWorld (sites : ℕ) (w : World) : Type 0 where
  pub count : length w.sites ≡ sites
  pub known : (site : ℕ) (s : SiteKnowledge) → slice_get w.sites site ≡ Some s → IsSmallSite s
  pub pool : (entry : Entry) → Contains w.pool entry → IsSmallEntry sites entry

-- each world that events lead to is small enough for frames, whatever the events are
abbrev pub WorldsAreSmall : Type 0
WorldsAreSmall = (names : List (List ℕ)) (sites : ℕ) (w : World) → IsReached names sites w → IsSmallWorld sites w

-- an entry fits: what it carries fits in a frame, its maker is a site, and its number is one of a frame
pub record IsEntryThatFits (entry : Entry) : Type 0 where
  pub maker : IsSite entry.maker
  pub number : IsCount entry.number
  pub carried : FitsInFrame entry.carried

-- each entry fits in a frame in a world that events lead to, of at most 64 sites, whose operations are all within their limits
abbrev pub EntriesFit : Type 0
EntriesFit = (names : List (List ℕ)) (sites : ℕ) (w : World) (entry : Entry) → IsReached names sites w → sites ≤ SITES → KnowsWithinLimits w → Contains w.pool entry
    → IsEntryThatFits entry

-- an entry that fits has a frame
abbrev pub EntriesHaveFrames : Type 0
EntriesHaveFrames = (place : ℕ) (entry : Entry) → IsEntryThatFits entry → (frame : Frame) × IsFrameOf place frame entry

-- each delta that a world holds stands for a knowledge that fits in a frame
abbrev pub HoldWhatFits : Type 0
HoldWhatFits = (state : WorldState) (d : DeltaState) → IsWorld state → IsHeldIn state d → (k : Knowledge) × IsDeltaOf d k × FitsInFrame k

-- a frame stands for a knowledge that fits in one, its maker is a site, and its number is one of a frame
pub record StandsForWhatFits (frame : Frame) : Type 0 where
  pub knowledge : Knowledge
  pub stands : IsDeltaOf frame.delta knowledge
  pub fits : FitsInFrame knowledge
  pub maker : IsSite frame.maker
  pub number : IsCount frame.number

-- each frame of the pool of a world stands for a knowledge that fits in one, and its maker and number are within their limits
abbrev pub FramesFit : Type 0
FramesFit = (state : WorldState) (place : ℕ) (frame : Frame) → IsWorld state → slice_get state.pool place ≡ Some frame → StandsForWhatFits frame
