-- What the port of a desk with a store does by the pass that it has borrowed (this project's own).
use Rattle.std.specs.Borrow.{MutBor}
use Rattle.std.specs.Prelude.{◌≡◌}
use Rattle.replica.specs.Site.{SiteState}
use Rattle.site_journal.specs.declared.desk_fault.DeskFault.{DeskFault}
use Rattle.site_journal.specs.declared.receipt.Receipt.{Receipt}
use Rattle.site_desk.specs.Deeds.{IsLegalReceipt}
use Rattle.site_desk.specs.Passes.{HasDone, PassState}
use Rattle.stored_desk.specs.Failing.{FailsUnsaved}

-- the pass of a port has done the step of `receipt`, which is legal at its position, and is the same borrow
pub record MakesByStoredPass (base : SiteState) (old : MutBor PassState) (receipt : Receipt) (new : MutBor PassState) : Type 0 where
  pub done : HasDone old.now receipt new.now
  pub legal : IsLegalReceipt base receipt
  pub same : new.ghost_name ≡ old.ghost_name

-- a call of a port has failed with `fault`, after `Unsaved` alone with a step done, and its pass is the
-- same borrow
pub record RefusesByStoredPass (base : SiteState) (old : MutBor PassState) (fault : DeskFault) (new : MutBor PassState) : Type 0 where
  pub fails : FailsUnsaved base old.now fault new.now
  pub same : new.ghost_name ≡ old.ghost_name
