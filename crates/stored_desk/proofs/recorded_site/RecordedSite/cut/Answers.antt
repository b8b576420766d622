use Rattle.std.proofs.Common.{refl}
use Rattle.site_journal.specs.declared.desk_fault.DeskFault.{DeskFault}
use Rattle.site_journal.specs.declared.desk_fault.DeskFault.TheVariants.{Unsaved}
use Rattle.site_desk.specs.Deeds.{IsLegalReceipt}
use Rattle.site_desk.specs.Passes.{step_of}
use Rattle.stored_desk.specs.Failing.{FailsUnsaved}
use Rattle.stored_desk.proofs.Answering.{if_err, if_ok, legal_receipt, unanswered}
use Rattle.stored_desk.proofs.Recording.{recorded_after}
use Rattle.stored_desk.proofs.recorded_site.RecordedSite.cut.Goals as goal

pub invariant_of-self-2 : goal.invariant_of-self-2
invariant_of-self-2 g c = recorded_after g.L.SiteLedger.base c.self.inside.prefix c.record.new.prefix c.self.inside.journal c.cut.new.self (step_of c.in_ok-receipt.receipt) c.record.new.is_lost c.record.result (c.self.invariant c.if-self.false)
    c.in_ok-receipt.ensures.added c.record.ensures.added c.record.ensures.lost

pub returns-clause-legal : goal.returns-clause-legal
returns-clause-legal g c = let receipt = c.in_ok-receipt.receipt in let known = c.in_ok-receipt.ensures in if_ok (IsLegalReceipt g.L.SiteLedger.base) receipt c.record.result c.record.ensures.receipt
    (legal_receipt g.L.SiteLedger.base c.self.inside.journal c.cut.new.self receipt known.reached known.position known.added)

pub returns-clause-fails : goal.returns-clause-fails
returns-clause-fails g c = let receipt = c.in_ok-receipt.receipt in let known = c.in_ok-receipt.ensures in if_err (λ (fault : DeskFault). FailsUnsaved g.L.SiteLedger.base c.args.pass.now fault c.cut.new.pass) Unsaved c.record.result c.record.ensures.fault
    (unanswered g.L.SiteLedger.base c.args.pass.now c.cut.new.pass Unsaved receipt refl known.done (legal_receipt g.L.SiteLedger.base c.self.inside.journal c.cut.new.self receipt known.reached known.position known.added))
