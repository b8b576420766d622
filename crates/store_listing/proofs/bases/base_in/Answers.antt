use Rattle.std.proofs.Common.{◌≡◌, ◌⊎◌, Err, IfErr, rules, subst, sym}
use Rattle.stored_steps.specs.declared.base_fault.BaseFault.TheVariants.{Memory}
use Rattle.stored_steps.specs.BaseFaults.{IsAnyBaseCause}
use Rattle.store_listing.proofs.BaseCauses.{named, no_heading}
use Rattle.store_listing.proofs.bases.base_in.Goals as goal

-- the row has no heading
pub returns-in_err-site-clause-fault : goal.returns-in_err-site-clause-fault
returns-in_err-site-clause-fault c =
    let same : c.from_residual.result ≡ Err c.in_err-site.field-0.0 = search rules in
    subst (λ r. IfErr r (λ fault. (fault ≡ Memory) ⊎ IsAnyBaseCause c.args.row.now fault)) (sym same) (no_heading c.args.row.now c.in_err-site.field-0.0 c.in_err-site.ensures.cause)

-- the row is no base of the site and the queues that it names
pub returns-clause-fault : goal.returns-clause-fault
returns-clause-fault c = named c.args.row.now c.in_ok-site.site c.in_ok-site.list c.base_of_row-base.result c.in_ok-site.ensures.heading c.base_of_row-base.ensures.cause
