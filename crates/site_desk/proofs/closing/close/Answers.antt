use Rattle.std.proofs.Common.{◌≡◌, IsTrue, refl, subst, sym}
use Rattle.replica.specs.Site.{IsSameSite}
use Rattle.site_journal.specs.Journals.{JournalState}
use Rattle.site_desk.specs.Passes.{AreAll}
use Rattle.site_desk.proofs.closing.close.Goals as goal

pub returns-clause-all : goal.returns-clause-all
returns-clause-all g c =
    let all = c.are_all.ensures.0 (subst IsTrue (sym c.if-not-are_all.false) refl) in
    rw (← c.desk.view_is) (subst (AreAll c.desk.inside.passes) c.as_slice.ensures.value all)

-- the journal that lay under the lock began so
pub returns-clause-begun : goal.returns-clause-begun
returns-clause-begun g c =
    subst (λ (j : JournalState). j.start ≡ 0 → IsSameSite g.L.SiteLedger.base j.base) (sym c.into_parts-journal.ensures.journal) c.into_parts-journal.ensures.begun
