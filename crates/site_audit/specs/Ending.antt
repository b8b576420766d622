-- What holds after a search that can't go on.
use Rattle.std.specs.Prelude.{ℕ, ◌≡◌, ◌<◌, List, Some, length, slice_get}
use Rattle.site_journal.specs.Journals.{JournalState}

-- the site of the number `site` has been given all steps of its journal, where `at` says how many
-- each site has been given
abbrev pub HasAllSteps : List JournalState → List ℕ → ℕ → Type 0
HasAllSteps journals at site = (j : JournalState) → slice_get journals site ≡ Some j → slice_get at site ≡ Some (length j.steps)

-- `site` is the least site that has steps left, where `at` says how many each has been given
pub record IsLeastLeft (journals : List JournalState) (at : List ℕ) (site : ℕ) : Type 0 where
  pub j : JournalState
  pub n : ℕ
  pub journal : slice_get journals site ≡ Some j
  pub here : slice_get at site ≡ Some n
  pub left : n < length j.steps
  pub before : (earlier : ℕ) → earlier < site → HasAllSteps journals at earlier
