use Rattle.std.proofs.Common.{◌≡◌, ◌⊎◌, inr, refl}
use Rattle.site_journal.specs.Journals.{RefusesTake}
use Rattle.site_journal.specs.declared.desk_fault.DeskFault.{DeskFault}
use Rattle.site_journal.specs.declared.desk_fault.DeskFault.TheVariants.{Decode, Memory, Take, Unsaved}
use Rattle.site_desk.specs.Deeds.{IsLegalReceipt}
use Rattle.site_desk.specs.Passes.{IsRewound, step_of}
use Rattle.stored_desk.proofs.Answering.{if_ok, legal_receipt, lost_alone, lost_fault, refused_from, unanswered_take}
use Rattle.stored_desk.proofs.Recording.{recorded_after, recorded_unchanged}
use Rattle.stored_desk.proofs.recorded_site.RecordedSite.take.Goals as goal

pub invariant_of-self : goal.invariant_of-self
invariant_of-self g c = λ well. recorded_unchanged g.L.SiteLedger.base c.self.inside.prefix c.self.inside.journal c.take.new.self (c.self.invariant well) c.in-Err.ensures.unchanged

pub returns-in-Err-clause-refused : goal.returns-in-Err-clause-refused
returns-in-Err-clause-refused g c = λ fault is. let known = c.in-Err.ensures in refused_from g.L.SiteLedger.base c.args.pass.now.seen c.self.inside.journal c.args.decoded fault (known.seen fault is) known.reached (known.refused fault is)

pub invariant_of-self-2 : goal.invariant_of-self-2
invariant_of-self-2 g c = recorded_after g.L.SiteLedger.base c.self.inside.prefix c.record_take.new.prefix c.self.inside.journal c.take.new.self (step_of c.in-Ok.receipt) c.record_take.new.is_lost c.record_take.result (c.self.invariant c.if-self.false)
    c.in-Ok.ensures.added c.record_take.ensures.added c.record_take.ensures.lost

pub returns-clause-legal : goal.returns-clause-legal
returns-clause-legal g c = let receipt = c.in-Ok.receipt in let known = c.in-Ok.ensures in if_ok (IsLegalReceipt g.L.SiteLedger.base) receipt c.record_take.result c.record_take.ensures.receipt
    (legal_receipt g.L.SiteLedger.base c.self.inside.journal c.take.new.self receipt known.reached known.position known.added)

pub returns-clause-fails : goal.returns-clause-fails
returns-clause-fails g c = let receipt = c.in-Ok.receipt in let known = c.in-Ok.ensures in unanswered_take g.L.SiteLedger.base c.args.pass.now c.take.new.pass receipt c.record_take.result c.record_take.ensures.fault known.done
    (legal_receipt g.L.SiteLedger.base c.self.inside.journal c.take.new.self receipt known.reached known.position known.added)

pub returns-clause-no_decode : goal.returns-clause-no_decode
returns-clause-no_decode g c = λ fault is. cc (lost_alone c.record_take.result (Decode fault) c.record_take.ensures.fault is)

pub returns-clause-refused : goal.returns-clause-refused
returns-clause-refused g c = λ fault is. absurd (cc (lost_alone c.record_take.result (Take fault) c.record_take.ensures.fault is))

pub returns-clause-memory : goal.returns-clause-memory
returns-clause-memory g c = λ is. absurd (cc (lost_alone c.record_take.result Memory c.record_take.ensures.fault is))

pub returns-clause-only : goal.returns-clause-only
returns-clause-only g c = lost_fault (λ (fault : DeskFault). IsRewound c.args.pass.now fault ⊎ (RefusesTake fault ⊎ (fault ≡ Unsaved))) c.record_take.result c.record_take.ensures.fault (inr (inr refl))

pub returns-clause-back : goal.returns-clause-back
returns-clause-back g c = c.record_take.ensures.back c.args.decoded c.in-Ok.ensures.took
