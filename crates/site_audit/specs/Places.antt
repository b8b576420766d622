-- The state of a search for one run.
use Rattle.std.specs.Prelude.{ℕ, ◌≡◌, ◌<◌, List, [], ◌∷◌, Option, Some, None, length, drop, slice_get}
use Rattle.std.specs.List.{All}
use Rattle.replica.specs.Site.{SiteState}
use Rattle.replica.specs.Steps.{SiteKnowledge}
use Rattle.site_journal.specs.Journals.{JournalState}
use Rattle.site_journal.specs.Legal.{LeadAll}
use Rattle.sites_world.specs.declared.event.Event.{Event}
use Rattle.sites_world.specs.Worlds.{Entry, site_of}
use Rattle.sites_world.specs.WorldStates.{IsSiteOf}
use Rattle.site_audit.specs.Runs.{IsGivenFirst, IsSpelledAt, IsSpelling, names_in, world_after}

-- `events` have given `site` the first `n` steps of its journal `j`, and a state that stands for
-- what the site knows then leads over the other steps to its replica
pub record IsSiteAt (journals : List JournalState) (events : List Event) (site n : ℕ) (j : JournalState) : Type 0 where
  pub given : IsGivenFirst journals events site n j
  pub s : SiteKnowledge
  pub knows : slice_get (world_after journals events).sites site ≡ Some s
  pub state : SiteState
  pub is : IsSiteOf (names_in journals) site state s
  pub leads : LeadAll state (drop n j.steps) j.replica

-- `events` have given each site the first steps of its journal, as many as `at` has for it
pub record HaveGiven (journals : List JournalState) (at : List ℕ) (events : List Event) : Type 0 where
  pub places : length at ≡ length journals
  pub sites : All (λ e. site_of e < length journals) events
  pub each : (site n : ℕ) (j : JournalState) → slice_get journals site ≡ Some j → slice_get at site ≡ Some n → IsSiteAt journals events site n j

-- `find` finds bytes at the place of an entry of `pool` that they spell, and finds all bytes that
-- spell an entry
pub record IsIndexOf (find : List ℕ → Option ℕ) (pool : List Entry) : Type 0 where
  pub some : (bytes : List ℕ) (place : ℕ) → find bytes ≡ Some place → IsSpelledAt pool place bytes
  pub none : (bytes : List ℕ) (place : ℕ) → find bytes ≡ None → IsSpelledAt pool place bytes → ⊥

-- the entries `added` are those that the bytes spell: one, or none if there are no bytes
abbrev pub AreSpelled : Option (List ℕ) → List Entry → Type 0
AreSpelled None added = added ≡ []
AreSpelled (Some bytes) added = (entry : Entry) × (added ≡ entry ∷ []) × IsSpelling bytes entry
