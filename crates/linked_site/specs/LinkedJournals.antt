-- The journal that a linked site ends with (this project's own).
use Rattle.std.specs.Prelude.{ℕ, ◌≡◌, List}
use Rattle.replica.specs.Deeds.{IsNew}
use Rattle.replica.specs.Site.{IsSameSite, SiteState}
use Rattle.site_journal.specs.Journals.{IsOfSite, JournalState}
use Rattle.linked_site.specs.declared.serving.TheConstants.{JOURNAL_STEPS}

-- a journal is of the number and the queues of `replica`, and no more steps may stand in it than in that of
-- each linked site; where none was dropped, it began from `replica`
pub record IsLinkedJournal (replica : SiteState) (journal : JournalState) : Type 0 where
  pub of_site : IsOfSite replica.site replica.names journal
  pub limit : journal.limit ≡ JOURNAL_STEPS
  pub begun : journal.start ≡ 0 → IsSameSite replica journal.base

-- a journal is that of a linked site which was new, has this number, and has these queues
pub record IsOfNewSite (site : ℕ) (names : List (List ℕ)) (journal : JournalState) : Type 0 where
  pub replica : SiteState
  pub new : IsNew replica
  pub site_is : replica.site ≡ site
  pub names_are : replica.names ≡ names
  pub linked : IsLinkedJournal replica journal
