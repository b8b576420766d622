use Rattle.std.proofs.Common.{List, ℕ, Ok, subst}
use Rattle.site_desk.specs.Deeds.{IsRefusedSomewhere, IsRefusedFrom}
use Rattle.site_desk.proofs.PossibleDeeds.{legal_receipt, refused_somewhere}
use Rattle.site_desk.proofs.desk.SiteDesk.take.Goals as goal

pub returns-in-Ok-taken-clause-reached : goal.returns-in-Ok-taken-clause-reached
returns-in-Ok-taken-clause-reached g c = legal_receipt {F = Unit {0}} _ _ _ (Ok c.in-Ok-taken.receipt) c.in-Ok-taken.ensures.reached c.in-Ok-taken.ensures.position c.in-Ok-taken.ensures.added

-- the decoded frame is that of the bytes
pub returns-in-Err-taken-clause-refused : goal.returns-in-Err-taken-clause-refused
returns-in-Err-taken-clause-refused g c = λ fault is. let l = g.L.SiteLedger in
    subst (λ (bytes : List ℕ). IsRefusedSomewhere l.site l.names bytes fault) c.in-Ok.ensures.value
    (refused_somewhere _ _ _ _ fault c.in-Err-taken.ensures.site (c.in-Err-taken.ensures.refused fault is))

pub returns-in-Err-taken-clause-reached_refused : goal.returns-in-Err-taken-clause-reached_refused
returns-in-Err-taken-clause-reached_refused g c = λ fault is.
    subst (λ (bytes : List ℕ). IsRefusedFrom g.L.SiteLedger.base c.args.pass.now.seen bytes fault) c.in-Ok.ensures.value
    (record {
      position = _;
      state = _;
      later = c.in-Err-taken.ensures.seen fault is;
      reached = c.in-Err-taken.ensures.reached;
      refuses = c.in-Err-taken.ensures.refused fault is;
    })
