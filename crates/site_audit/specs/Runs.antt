-- When journals are one run of events, and when events are stuck.
use Rattle.std.specs.Prelude.{ℕ, ◌≡◌, ◌≢◌, ◌<◌, ◌≤◌, ◌⊎◌, List, [], ◌∷◌, Some, None, Ok, length, take, slice_get}
use Rattle.std.specs.List.{All}
use Rattle.delta.specs.Standing.{IsDeltaOf}
use Rattle.delta.specs.declared.frame.Frame.{Frame}
use Rattle.delta_codec.specs.Frames.{SpellsIn}
use Rattle.delta_codec.specs.declared.limits.TheConstants.{VERSION}
use Rattle.replica.specs.Deeds.{IsNew}
use Rattle.replica.specs.Steps.{SiteKnowledge}
use Rattle.site_journal.specs.declared.step.Step.{Step}
use Rattle.site_journal.specs.declared.step.StepDeed.{StepDeed}
use Rattle.site_journal.specs.declared.step.StepDeed.TheVariants.{Asked, Took, Cut, Whole}
use Rattle.site_journal.specs.Journals.{JournalState}
use Rattle.sites_world.specs.declared.event.Event.{Event}
use Rattle.sites_world.specs.declared.event.Event.TheVariants as event
use Rattle.sites_world.specs.declared.outcome.Outcome.TheVariants as outcome
use Rattle.sites_world.specs.Worlds.{Entry, World, happens, new_world, run, site_of}
use Rattle.sites_world.specs.WorldStates.{IsSiteOf}

-- ---- the effect of an event

-- `bytes` spell the frame of `entry` in the version that is written: it has its maker and number, and
-- says what the entry carries
pub record IsSpelling (bytes : List ℕ) (entry : Entry) : Type 0 where
  pub frame : Frame
  pub maker : frame.maker ≡ entry.maker
  pub number : frame.number ≡ entry.number
  pub says : IsDeltaOf frame.delta entry.carried
  pub spelled : SpellsIn VERSION frame bytes

-- `bytes` spell the frame of the entry at `place` of `pool`; bytes of an older version spell none
pub record IsSpelledAt (pool : List Entry) (place : ℕ) (bytes : List ℕ) : Type 0 where
  pub entry : Entry
  pub is : slice_get pool place ≡ Some entry
  pub spelling : IsSpelling bytes entry

-- event `e` in world `w` makes an entry whose frame `bytes` spell
pub record MakesBytes (names : List (List ℕ)) (w : World) (e : Event) (bytes : List ℕ) : Type 0 where
  pub place : ℕ
  pub outcome : (happens names w e).1 ≡ outcome.Cut (Ok (Some place))
  pub spelled : IsSpelledAt (happens names w e).0.pool place bytes

-- event `e` in world `w` gives its site this deed: the ask has this answer; the frame that was taken, or made, is the one that the
-- bytes spell
abbrev pub GivesDeed : List (List ℕ) → World → Event → StepDeed → Type 0
GivesDeed names w (event.Ask site asked) (Asked other answer) = (other ≡ asked) × ((happens names w (event.Ask site asked)).1 ≡ outcome.Answered answer)
GivesDeed names w (event.Take site place) (Took bytes) = ((happens names w (event.Take site place)).1 ≡ outcome.Took (Ok tt)) × IsSpelledAt w.pool place bytes
GivesDeed names w (event.Cut site) (Cut None) = (happens names w (event.Cut site)).1 ≡ outcome.Cut (Ok None)
GivesDeed names w (event.Cut site) (Cut (Some bytes)) = MakesBytes names w (event.Cut site) bytes
GivesDeed names w (event.Whole site) (Whole bytes) = MakesBytes names w (event.Whole site) bytes
GivesDeed names w e deed = ⊥

-- events in turn, from world `w` on, give `site` these steps, in order, and no others
abbrev pub AreGiven : List (List ℕ) → World → List Event → ℕ → List Step → Type 0
AreGiven names w [] site steps = steps ≡ []
AreGiven names w (e ∷ es) site steps =
    ((site_of e ≡ site) × (step : Step) × (rest : List Step) × (steps ≡ step ∷ rest) × GivesDeed names w e step.deed × AreGiven names (happens names w e).0 es site rest)
    ⊎ ((site_of e ≢ site) × AreGiven names (happens names w e).0 es site steps)

-- ---- journals of all sites

-- the names of the queues of all journals, which are those of the first
abbrev pub names_in : List JournalState → List (List ℕ)
names_in [] = []
names_in (j ∷ js) = j.base.names

-- `journals` are those of the sites 0, 1, .. in order, with one list of queues
pub record AreSites (journals : List JournalState) : Type 0 where
  pub numbers : (site : ℕ) (j : JournalState) → slice_get journals site ≡ Some j → j.base.site ≡ site
  pub names : (site : ℕ) (j : JournalState) → slice_get journals site ≡ Some j → j.base.names ≡ names_in journals

-- journal `j` has all steps of its site: no step was dropped, and it began from a new replica
pub record IsFromNew (j : JournalState) : Type 0 where
  pub start : j.start ≡ 0
  pub base : IsNew j.base

-- `site` is the first whose journal hasn't all steps of the site
pub record IsFirstStale (journals : List JournalState) (site : ℕ) : Type 0 where
  pub j : JournalState
  pub is : slice_get journals site ≡ Some j
  pub stale : IsFromNew j → ⊥
  pub before : (earlier : ℕ) (k : JournalState) → earlier < site → slice_get journals earlier ≡ Some k → IsFromNew k

-- the world that `events` lead to, from as many new sites as there are journals
abbrev pub world_after : List JournalState → List Event → World
world_after journals events = (run (names_in journals) (new_world (length journals)) events).0

-- ---- one run

-- in the world after `events` the site of the number `site` knows what the replica of its journal
-- `j` stands for
pub record Knows (journals : List JournalState) (events : List Event) (site : ℕ) (j : JournalState) : Type 0 where
  pub s : SiteKnowledge
  pub is : slice_get (world_after journals events).sites site ≡ Some s
  pub stands : IsSiteOf (names_in journals) site j.replica s

-- `events` are one run of all journals: each is at one of the sites, each site is given just its
-- journal, and knows then what its replica stands for
pub record IsRun (journals : List JournalState) (events : List Event) : Type 0 where
  pub sites : All (λ e. site_of e < length journals) events
  pub given : (site : ℕ) (j : JournalState) → slice_get journals site ≡ Some j → AreGiven (names_in journals) (new_world (length journals)) events site j.steps
  pub knows : (site : ℕ) (j : JournalState) → slice_get journals site ≡ Some j → Knows journals events site j

-- ---- stuck

-- `events` give `site` the first `n` steps of its journal `j`, and no others
pub record IsGivenFirst (journals : List JournalState) (events : List Event) (site n : ℕ) (j : JournalState) : Type 0 where
  pub within : n ≤ length j.steps
  pub given : AreGiven (names_in journals) (new_world (length journals)) events site (take n j.steps)

-- no event at `site`, in the world after `events`, gives the site the deed of `step`
abbrev pub GivesNone : List JournalState → List Event → ℕ → Step → Type 0
GivesNone journals events site step = (e : Event) → site_of e ≡ site → GivesDeed (names_in journals) (world_after journals events) e step.deed → ⊥

-- `events` are stuck at the step at `position` of `site`: each site is given its first steps, this one
-- those before that step and not all, each lesser site all, and no further event gives any site its next
pub record IsStuck (journals : List JournalState) (site position : ℕ) (events : List Event) : Type 0 where
  -- how many steps each site is given
  pub at : List ℕ
  pub every : length at ≡ length journals
  pub sites : All (λ e. site_of e < length journals) events
  pub given : (other n : ℕ) (j : JournalState) → slice_get journals other ≡ Some j → slice_get at other ≡ Some n → IsGivenFirst journals events other n j
  pub here : slice_get at site ≡ Some position
  pub fewer : (j : JournalState) → slice_get journals site ≡ Some j → position < length j.steps
  pub lesser : (other n : ℕ) (j : JournalState) → other < site → slice_get journals other ≡ Some j → slice_get at other ≡ Some n → n ≡ length j.steps
  pub stuck : (other n : ℕ) (j : JournalState) (step : Step) → slice_get journals other ≡ Some j → slice_get at other ≡ Some n → slice_get j.steps n ≡ Some step
      → GivesNone journals events other step
