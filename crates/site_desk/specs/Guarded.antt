-- The invariant of a journal whenever the lock of its desk is free.
use Rattle.std.specs.Prelude.{ℕ, ◌≡◌, List}
use Rattle.replica.specs.Site.{IsSameSite, SiteState}
use Rattle.site_journal.specs.Journals.{IsJournal, IsOfSite, JournalState}
use Rattle.site_desk.specs.Deeds.{IsReached}

-- journal `j` is of this site and these queues, has this limit, and as many steps as its book has
-- counted, which is `total`; it began from `base`, by as many legal steps as were dropped
pub record IsGuarded (site : ℕ) (names : List (List ℕ)) (limit : ℕ) (base : SiteState) (total : ℕ) (j : JournalState) : Type 0 where
  pub counted : j.count ≡ total
  pub of_site : IsOfSite site names j
  pub limited : j.limit ≡ limit
  pub begun : j.start ≡ 0 → IsSameSite base j.base
  pub reached : IsJournal j → IsReached base j.start j.base
