use Rattle.std.proofs.Common.{◌≡◌, ◌∙◌, ap, subst, sym}
use Rattle.site_journal.specs.Journals.{IsJournal, JournalState}
use Rattle.stored_desk.proofs.Recording.{legal_none, recorded_new}
use Rattle.stored_desk.proofs.stored_desk.StoredDesk.new.Goals as goal

pub new-vault-requires-clause-legal : goal.new-vault-requires-clause-legal
new-vault-requires-clause-legal g c = legal_none g.L.SiteLedger.base

pub new-requires : goal.new-requires
new-requires g c =
    let journal : JournalState = c.into_guarded-journal.result.0 in
    let same : c.journal.result.now ≡ journal = c.journal.ensures.journal in
    let count : journal.count ≡ 0 = ap (λ (j : JournalState). j.count) (sym same) ∙ (sym c.len.ensures.count ∙ c.if-len-ne0.false) in
    let legal : IsJournal journal = subst IsJournal same c.len.ensures.journal in
    record { recorded = recorded_new g.L.SiteLedger.base c.named-writer.result.1 journal c.named-writer.ensures count legal c.journal.ensures.begun }
