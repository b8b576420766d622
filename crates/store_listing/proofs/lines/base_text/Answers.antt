use Rattle.std.proofs.Common.{◌≡◌, subst, sym}
use Rattle.store_listing.specs.declared.listing_fault.ListingFault.TheVariants.{Memory}
use Rattle.store_listing.specs.Causes.{IsTextFault}
use Rattle.store_listing.specs.Lines.{base_line}
use Rattle.store_listing.specs.Rows.{IsBaseText}
use Rattle.store_listing.proofs.BaseCauses.{of_base}
use Rattle.store_listing.proofs.DeedCauses.{memory_cause}
use Rattle.store_listing.proofs.Pieces.{if_err, if_ok}
use Rattle.store_listing.proofs.lines.base_text.Goals as goal

-- the line of the base that was read
pub returns-clause-value : goal.returns-clause-value
returns-clause-value c =
    if_ok (λ line. line.items ≡ base_line c.args.position c.in-Ok.base) (λ line. IsBaseText c.args.position c.args.row.now line.items) c.base_line-line.result
    (λ line is. record { base = c.in-Ok.base; read = c.in-Ok.ensures.read; is = is }) c.base_line-line.ensures.value

-- no base is read
pub returns-in-Err-clause-fault : goal.returns-in-Err-clause-fault
returns-in-Err-clause-fault c =
    subst (IsTextFault c.args.position c.args.row.now) (sym c.base_fault.ensures) (of_base c.args.position c.args.row.now c.in-Err.fault c.requires c.in-Err.ensures.fault)

-- an allocation was refused
pub returns-clause-fault : goal.returns-clause-fault
returns-clause-fault c =
    if_err (λ fault. fault ≡ Memory) (IsTextFault c.args.position c.args.row.now) c.base_line-line.result
    (λ fault why. memory_cause c.args.position c.args.row.now fault why) c.base_line-line.ensures.memory
