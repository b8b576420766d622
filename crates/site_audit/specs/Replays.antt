-- A search for one run, as the code keeps it.
use Rattle.std.specs.Prelude.{ℕ, suc, ◌≡◌, ◌+◌, ◌≤◌, Bool, true, false, List, [], ◌∷◌, ◌++◌, Option, Some, None, length, option_map, slice_get, slice_set}
use Rattle.std.specs.BTreeMap as tree
use Rattle.std.specs.Cmp.Lexicographic.{slice_cmp}
use Rattle.std.specs.Map.{update}
use Rattle.std.specs.Ordering.{nat_cmp}
use Rattle.std.specs.Str.{bytes_eq}
use Rattle.site_journal.specs.declared.step.Step.{Step}
use Rattle.site_journal.specs.declared.step.StepDeed.{StepDeed}
use Rattle.site_journal.specs.declared.step.StepDeed.TheVariants.{Asked, Took, Cut, Whole}
use Rattle.site_journal.specs.Journals.{JournalState}
use Rattle.sites_world.specs.declared.event.Event.{Event}
use Rattle.sites_world.specs.declared.event.Event.TheVariants as event
use Rattle.site_audit.specs.declared.pool.Pool.{Pool}
use Rattle.site_audit.specs.declared.replay.Replay.{Replay}
use Rattle.site_audit.specs.Places.{HaveGiven, IsIndexOf}
use Rattle.site_audit.specs.Runs.{world_after}

-- the place at which `pool` finds the entry of the bytes `bytes`, if it does
abbrev pub found_in : Pool → List ℕ → Option ℕ
found_in pool bytes = tree.get_by (λ key. slice_cmp nat_cmp bytes key.now) pool.places

-- replay `r` agrees with its events: they have given each site as many steps as `r.at` says, and its pool finds the entries that
-- they made
pub record IsReplay (journals : List JournalState) (r : Replay) : Type 0 where
  pub is : HaveGiven journals r.at.items r.events.items
  pub index : IsIndexOf (found_in r.pool) (world_after journals r.events.items).pool
  pub entries : r.pool.entries ≡ length (world_after journals r.events.items).pool
  pub few : r.pool.entries ≤ length r.events.items

-- `deed` is that of the next step of `site`, after those that replay `r` has given it
pub record IsNextStep (journals : List JournalState) (r : Replay) (site : ℕ) (deed : StepDeed) : Type 0 where
  pub j : JournalState
  pub n : ℕ
  pub step : Step
  pub journal : slice_get journals site ≡ Some j
  pub at : slice_get r.at.items site ≡ Some n
  pub next : slice_get j.steps n ≡ Some step
  pub deed_is : step.deed ≡ deed

-- `site` can't go on in replay `r`: it has all its steps, or waits for a frame that isn't in the pool
pub data CannotGoOn (journals : List JournalState) (r : Replay) (site : ℕ) : Type 0 where
  Ended : (j : JournalState) → slice_get journals site ≡ Some j → slice_get r.at.items site ≡ Some (length j.steps) → CannotGoOn journals r site
  Waits : (bytes : List ℕ) → IsNextStep journals r site (Took bytes) → found_in r.pool bytes ≡ None → CannotGoOn journals r site

-- from replay `old` to `new` a step of `site` was placed, or, where the flag is false, the site
-- can't go on and nothing has changed
abbrev pub HasPlayed : List JournalState → Replay → Replay → ℕ → Bool → Type 0
HasPlayed journals old new site true = IsReplay journals new × (length new.events.items ≡ length old.events.items + 1)
HasPlayed journals old new site false = (new ≡ old) × CannotGoOn journals new site

-- the event that is tried for a deed of `site`, where `find` finds entries by their bytes: none for
-- a take of bytes that aren't found
abbrev pub event_for : (List ℕ → Option ℕ) → ℕ → StepDeed → Option Event
event_for find site (Asked asked answer) = Some (event.Ask site asked)
event_for find site (Took bytes) = option_map (event.Take site) (find bytes)
event_for find site (Cut made) = Some (event.Cut site)
event_for find site (Whole made) = Some (event.Whole site)

-- the bytes of the frame that a deed made; none where it made no frame
abbrev pub made_by : StepDeed → Option (List ℕ)
made_by (Asked asked answer) = None
made_by (Took bytes) = None
made_by (Cut made) = made
made_by (Whole made) = Some made

-- from pool `old` to `new` the bytes that were made, if any, are found at the place of the next
-- entry, and all others where they were
abbrev pub HasFound : Pool → Pool → Option (List ℕ) → Type 0
HasFound old new None = ((bytes : List ℕ) → found_in new bytes ≡ found_in old bytes) × (new.entries ≡ old.entries)
HasFound old new (Some made) =
    ((bytes : List ℕ) → found_in new bytes ≡ update bytes_eq (found_in old) made (Some old.entries) bytes) × (new.entries ≡ old.entries + 1)

-- from replay `old` to `new` event `e` was put at the end, which gives `site` its next step, with
-- `deed`, and the frame that this made, if any, is in the pool
pub record HasPut (old new : Replay) (site : ℕ) (e : Event) (deed : StepDeed) : Type 0 where
  pub at : (n : ℕ) → slice_get old.at.items site ≡ Some n → new.at.items ≡ slice_set old.at.items site (suc n)
  pub events : new.events.items ≡ old.events.items ++ e ∷ []
  pub found : HasFound old.pool new.pool (made_by deed)

-- in replay `r` no step of `sites` journals is placed yet
pub record IsUnplayed (r : Replay) (sites : ℕ) : Type 0 where
  pub count : length r.at.items ≡ sites
  pub at : (site n : ℕ) → slice_get r.at.items site ≡ Some n → n ≡ 0
  pub events : r.events.items ≡ []
  pub found : (bytes : List ℕ) → found_in r.pool bytes ≡ None
  pub entries : r.pool.entries ≡ 0
