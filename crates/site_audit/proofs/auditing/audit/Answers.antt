use Rattle.std.proofs.Common.{◌≡◌, ◌∙◌, Result, Err, IsErrAnd, ap}
use Rattle.std.proofs.lemmas.Result.{err_from_is_err_and}
use Rattle.site_audit.specs.declared.audit_fault.AuditFault.{AuditFault}
use Rattle.site_audit.proofs.auditing.audit.Goals as goal

same_err : {T : Type 0} (r : Result T AuditFault) (a b : AuditFault) → r ≡ Err a → r ≡ Err b → a ≡ b
same_err r a b one other = cc

-- the fault that a `?` hands on is the one that came
came : {T : Type 0} (r : Result T AuditFault) (fault : AuditFault) → IsErrAnd r (λ reported. reported ≡ fault) → r ≡ Err fault
came r fault gives = let reported = err_from_is_err_and r gives in reported.1 ∙ ap Err reported.2

pub returns-in_err-events-clause-not_fresh : goal.returns-in_err-events-clause-not_fresh
returns-in_err-events-clause-not_fresh c = λ site.
    let is = came c.from_residual.result c.in_err-events.field-0.0 c.from_residual.ensures.1 in (
      λ e. (c.explain.ensures.not_fresh site).0 (c.in_err-events.was ∙ ap Err (same_err c.from_residual.result _ _ is e)),
      λ h. is ∙ ap Err (same_err c.explain.result _ _ c.in_err-events.was ((c.explain.ensures.not_fresh site).1 h)),
    )

pub returns-in-Some-clause-not_fresh : goal.returns-in-Some-clause-not_fresh
returns-in-Some-clause-not_fresh c = λ site. (
  λ e. absurd (cc),
  λ h. let other = (c.explain.ensures.not_fresh site).1 h in let done = c.in_ok-events.was in absurd (cc),
)

pub returns-in-None-clause-not_fresh : goal.returns-in-None-clause-not_fresh
returns-in-None-clause-not_fresh c = λ site. (
  λ e. absurd (cc),
  λ h. let other = (c.explain.ensures.not_fresh site).1 h in let done = c.in_ok-events.was in absurd (cc),
)
