use Rattle.std.proofs.Common.{◌≡◌, IfErr, Result, Err, rules, subst, sym}
use Rattle.store_listing.specs.declared.listing_fault.ListingFault.{ListingFault}
use Rattle.store_listing.specs.Listings.{HasStopped}
use Rattle.store_listing.proofs.Endings.{stopped_at}
use Rattle.store_listing.proofs.writing.write_steps.Goals as goal

-- the row has a fault
pub returns-in_err-write_row-clause-stopped : goal.returns-in_err-write_row-clause-stopped
returns-in_err-write_row-clause-stopped g c =
    let same : c.from_residual.result ≡ Err c.in_err-write_row.field-0.0 = search rules in
    subst (λ (r : Result (Unit {0}) ListingFault). IfErr r (λ fault. HasStopped c.args.with_frames c.args.first c.args.rows.now fault (g.W.Sink.taken c.args.out.now) (g.W.Sink.taken c.write_row.new.out)))
    (sym same)
    (stopped_at c.args.with_frames c.args.first c.loop-row.position c.args.rows.now c.loop-row.row-index c.row-item.result c.in_err-write_row.field-0.0
    (g.W.Sink.taken c.args.out.now) (g.W.Sink.taken c.loop-row.out) (g.W.Sink.taken c.write_row.new.out) c.loop-row-test.true c.row-item.is c.loop-row.invariant.position c.loop-row.invariant.written
    c.in_err-write_row.ensures.cause c.in_err-write_row.ensures.begun)
