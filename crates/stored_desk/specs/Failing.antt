-- How calls of a desk with a store fail, and what an answered ask is (this project's own).
use Rattle.std.specs.Prelude.{◌≡◌, ◌⊎◌}
use Rattle.replica.specs.Site.{SiteState}
use Rattle.site_journal.specs.Journals.{IsAnswerTo}
use Rattle.site_journal.specs.declared.desk_fault.DeskFault.{DeskFault}
use Rattle.site_journal.specs.declared.desk_fault.DeskFault.TheVariants.{Memory, Unsaved}
use Rattle.site_journal.specs.declared.receipt.Receipt.{Receipt}
use Rattle.site_desk.specs.Deeds.{IsLegalReceipt, IsReached}
use Rattle.site_desk.specs.Passes.{HasDone, PassState}
use Rattle.status_report.specs.declared.asks.Ask.{Ask}

-- a site that began in state `base` answers the ask `asked` with the deed of `receipt`, after as many
-- legal steps as the receipt's position says
pub record IsAnsweredAt (base : SiteState) (asked : Ask) (receipt : Receipt) : Type 0 where
  pub before : SiteState
  pub after : SiteState
  pub reached : IsReached base receipt.position before
  pub answers : IsAnswerTo before asked after receipt.deed

-- from `old` to `new` a pass has done a legal step, for which its caller gets no receipt
pub record HasDoneUnanswered (base : SiteState) (old new : PassState) : Type 0 where
  pub receipt : Receipt
  pub done : HasDone old receipt new
  pub legal : IsLegalReceipt base receipt

-- an ask fails with `fault`: the pass is as before, or, after `Unsaved` and `Memory` alone, it has
-- done a step that isn't known to be durable
abbrev pub Fails : SiteState → PassState → DeskFault → PassState → Type 0
Fails base old fault new = (new ≡ old) ⊎ (((fault ≡ Unsaved) ⊎ (fault ≡ Memory)) × HasDoneUnanswered base old new)

-- a cut, a whole or a take fails with `fault`: the pass is as before, or, after `Unsaved` alone, it
-- has done a step that isn't known to be durable
abbrev pub FailsUnsaved : SiteState → PassState → DeskFault → PassState → Type 0
FailsUnsaved base old fault new = (new ≡ old) ⊎ ((fault ≡ Unsaved) × HasDoneUnanswered base old new)
