use Rattle.std.proofs.Common.{inr, refl, arith}
use Rattle.stored_steps.proofs.Headings.{fewer}
use Rattle.stored_steps.proofs.base_reading.names_of.Goals as goal

-- behind the names that are read there is none
pub returns-in_default-clause-fault : goal.returns-in_default-clause-fault
returns-in_default-clause-fault c =
    let low = c.loop-place-test.true in
    let many = c.loop-place.invariant.count in
    inr (refl, fewer c.loop-place.names.items c.args.count c.args.bytes.now c.loop-place.left.now c.loop-place.invariant.spelled (omega (arith, low, many)) c.in_default.ensures.none)
