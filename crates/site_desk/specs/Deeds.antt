-- What contracts see of the deeds of a desk's site, whose state lies under a lock.
use Rattle.std.specs.Prelude.{ℕ, ◌≡◌, ◌≤◌, List, length}
use Rattle.replica.specs.Site.{SiteState}
use Rattle.replica.specs.declared.take_fault.TakeFault.{TakeFault}
use Rattle.site_journal.specs.Journals.{IsAnswerTo, IsRefusedFrame}
use Rattle.site_journal.specs.Legal.{LeadAll, Leads}
use Rattle.site_journal.specs.declared.receipt.Receipt.{Receipt}
use Rattle.site_journal.specs.declared.step.Step.{Step}
use Rattle.site_journal.specs.declared.step.StepDeed.{StepDeed}
use Rattle.status_report.specs.declared.asks.Ask.{Ask}

-- some state of the site of the number `site` with the queues `names`, reachable or not, does `deed`
pub record IsPossibleSomewhere (site : ℕ) (names : List (List ℕ)) (deed : StepDeed) : Type 0 where
  pub old : SiteState
  pub new : SiteState
  pub site_is : old.site ≡ site
  pub names_are : old.names ≡ names
  pub leads : Leads old deed new

-- `deed` is the ask `asked` with an answer other than `Memory` that some state of the site of the
-- number `site` with the queues `names`, reachable or not, gives
pub record IsAnsweredSomewhere (site : ℕ) (names : List (List ℕ)) (asked : Ask) (deed : StepDeed) : Type 0 where
  pub old : SiteState
  pub new : SiteState
  pub site_is : old.site ≡ site
  pub names_are : old.names ≡ names
  pub answers : IsAnswerTo old asked new deed

-- some state of the site of the number `site` with the queues `names`, reachable or not, refuses the
-- frame that `bytes` spell for the cause `fault`
pub record IsRefusedSomewhere (site : ℕ) (names : List (List ℕ)) (bytes : List ℕ) (fault : TakeFault) : Type 0 where
  pub old : SiteState
  pub site_is : old.site ≡ site
  pub names_are : old.names ≡ names
  pub refuses : IsRefusedFrame old bytes fault

-- a site that began in state `base` is in `state` after `position` legal steps
pub record IsReached (base : SiteState) (position : ℕ) (state : SiteState) : Type 0 where
  pub steps : List Step
  pub count : length steps ≡ position
  pub lead : LeadAll base steps state

-- a site that began in state `base` can do the deed of `receipt` after as many legal steps as the
-- receipt's position says
pub record IsLegalReceipt (base : SiteState) (receipt : Receipt) : Type 0 where
  pub before : SiteState
  pub after : SiteState
  pub reached : IsReached base receipt.position before
  pub leads : Leads before receipt.deed after

-- a site that began in state `base` refuses the frame that `bytes` spell for the cause `fault`
-- after at least `seen` legal steps
pub record IsRefusedFrom (base : SiteState) (seen : ℕ) (bytes : List ℕ) (fault : TakeFault) : Type 0 where
  pub position : ℕ
  pub state : SiteState
  pub later : seen ≤ position
  pub reached : IsReached base position state
  pub refuses : IsRefusedFrame state bytes fault
