use Rattle.std.proofs.Common.{◌≡◌, ◌∙◌, Err, ap}
use Rattle.site_audit.specs.declared.audit_fault.AuditFault.TheVariants.{NotFresh}
use Rattle.store_audit.proofs.Sorted.{never_stale}
use Rattle.store_audit.proofs.auditing.explain_fresh.Goals as goal

-- no journal is stale
pub unreachable-requires-in-Err-NotFresh : goal.unreachable-requires-in-Err-NotFresh
unreachable-requires-in-Err-NotFresh c =
    let site = c.in-Err-NotFresh.field-0-0 in
    let reported : c.explain.result ≡ Err (NotFresh site) = c.in-Err-NotFresh.is ∙ ap Err c.in-Err-NotFresh.field-0-is in
    never_stale c.args.journals.now site c.requires.fresh ((c.explain.ensures.not_fresh site).0 reported).1
