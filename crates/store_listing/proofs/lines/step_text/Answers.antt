use Rattle.store_listing.specs.Causes.{IsDeedFault, IsTextFault}
use Rattle.store_listing.proofs.DeedCauses.{deed_cause}
use Rattle.store_listing.proofs.Pieces.{if_err}
use Rattle.store_listing.proofs.lines.step_text.Goals as goal

-- the frame of the step is at fault, or an allocation was refused
pub returns-clause-fault : goal.returns-clause-fault
returns-clause-fault c =
    if_err (IsDeedFault c.args.position c.in-Ok.step.deed) (IsTextFault c.args.position c.args.row.now) c.deed_text-text.result
    (λ fault why. deed_cause c.args.position c.in-Ok.step.pass c.in-Ok.step.deed c.args.row.now fault c.in-Ok.ensures.row why) c.deed_text-text.ensures.fault
