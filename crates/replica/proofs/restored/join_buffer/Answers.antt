use Rattle.std.proofs.Common.{◌≡◌, Err, ap, sym, subst, ◌∙◌}
use Rattle.replica.specs.declared.restore_fault.RestoreFault.{RestoreFault}
use Rattle.replica.specs.Restoring.{IsJoinCause, restore_fault_of}
use Rattle.replica.proofs.TakenSites.{agrees_before, prepared_agrees}
use Rattle.replica.proofs.RestoredSites.{join_cause, join_found}
use Rattle.replica.proofs.restored.join_buffer.Goals as goal

pub returns-in-Err-clause-cause : goal.returns-in-Err-clause-cause
returns-in-Err-clause-cause c =
    subst (λ (f : RestoreFault). IsJoinCause c.args.state.now c.args.pending f) (sym c.restore_fault.ensures)
    (join_cause c.args.state.now c.args.pending c.prepare.result c.prepare.ensures.refusals c.in-Err.fault c.in-Err.is)

pub returns-in-Err-clause-found : goal.returns-in-Err-clause-found
returns-in-Err-clause-found c fault some cause =
    let f = join_found c.args.state.now c.args.pending c.prepare.result c.prepare.ensures.refusals fault some cause in
    let same : c.in-Err.fault ≡ f.0 = (let had = c.in-Err.is in let reported = f.2 in cc) in
    let named : c.restore_fault.result ≡ fault = c.restore_fault.ensures ∙ ap restore_fault_of same ∙ f.1 in
    ap (λ (x : RestoreFault). Err x) named

pub returns-clause-agree : goal.returns-clause-agree
returns-clause-agree c =
    agrees_before c.args.state.now c.prepare.new.self c.args.pending c.prepare.ensures.kept (prepared_agrees c.prepare.new.self c.args.pending c.prepare.ensures.limits.1 c.in_default.ensures.ready)
