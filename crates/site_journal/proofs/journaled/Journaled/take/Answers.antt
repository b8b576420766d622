use Rattle.std.proofs.Common.{List, ℕ, subst}
use Rattle.site_journal.specs.Journals.{IsRefusedFrame}
use Rattle.site_journal.proofs.journaled.Journaled.take.Goals as goal

-- the decoded frame is that of the bytes
pub returns-in-Err-take_decoded-clause-refused : goal.returns-in-Err-take_decoded-clause-refused
returns-in-Err-take_decoded-clause-refused c = λ fault is.
    subst (λ (bytes : List ℕ). IsRefusedFrame c.args.self.now.replica bytes fault) c.in-Ok.ensures.value (c.in-Err-take_decoded.ensures.refused fault is)
