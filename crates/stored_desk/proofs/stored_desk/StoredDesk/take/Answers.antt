use Rattle.std.proofs.Common.{List, ℕ, subst}
use Rattle.site_desk.specs.Deeds.{IsRefusedFrom}
use Rattle.stored_desk.proofs.stored_desk.StoredDesk.take.Goals as goal

-- the decoded frame is that of the bytes
pub returns-in-Err-taken-clause-refused : goal.returns-in-Err-taken-clause-refused
returns-in-Err-taken-clause-refused g c = λ fault is.
    subst (λ (bytes : List ℕ). IsRefusedFrom g.L.SiteLedger.base c.args.pass.now.seen bytes fault) c.in-Ok.ensures.value (c.in-Err-taken.ensures.refused fault is)
