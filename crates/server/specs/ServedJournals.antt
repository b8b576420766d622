-- What a served site gives in the end (this project's own).
use Rattle.std.specs.Prelude.{ℕ, ◌≡◌, List}
use Rattle.replica.specs.Deeds.{IsNew}
use Rattle.site_journal.specs.Journals.{IsOfSite, JournalState}
use Rattle.server.specs.declared.site.TheConstants.{JOURNAL_STEPS}

-- a journal is of this site and of these queues, and no more steps may stand in it than in each journal
-- of a server; where none was dropped, it began from a site that knew nothing
pub record IsServedJournal (site : ℕ) (names : List (List ℕ)) (journal : JournalState) : Type 0 where
  pub of_site : IsOfSite site names journal
  pub limit : journal.limit ≡ JOURNAL_STEPS
  pub begun : journal.start ≡ 0 → IsNew journal.base
