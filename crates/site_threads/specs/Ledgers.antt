-- The ledger of a site that is launched (this project's own).
use Rattle.std.specs.Prelude.{ℕ, ◌≡◌, ◌≤◌, List}
use Rattle.std.specs.declared.sync.ledger.Blank.{Blank}
use Rattle.replica.specs.Site.{IsSameSite, SiteState}
use Rattle.site_desk.specs.declared.desk.TheConstants.{MOST_PASSES}
use Rattle.site_journal.specs.Journals.{IsOfSite, JournalState}

-- `site`, `names` and `base` of a ledger are those of the site that begins as `replica`
pub record IsLedgerOf (site : ℕ) (names : List (List ℕ)) (base replica : SiteState) : Type 0 where
  pub site_is : replica.site ≡ site
  pub names_are : replica.names ≡ names
  pub base_is : IsSameSite replica base

-- `blank` is that of a ledger with this name and these parts, one for each of `tasks` tasks, 1 to MOST_PASSES
pub record IsBlankFor (name parts tasks : ℕ) (blank : Blank) : Type 0 where
  pub name_is : blank.name ≡ name
  pub parts_are : blank.parts ≡ parts
  pub each : blank.parts ≡ tasks
  pub some : 1 ≤ tasks
  pub few : tasks ≤ MOST_PASSES

-- `journal` has no step yet, and its site, limit and base are those of a ledger
pub record IsJournalFor (site : ℕ) (names : List (List ℕ)) (limit : ℕ) (base : SiteState) (journal : JournalState) : Type 0 where
  pub own_site : IsOfSite site names journal
  pub limit_is : journal.limit ≡ limit
  pub base_is : journal.base ≡ base
  pub new : journal.count ≡ 0
