use Rattle.std.proofs.Common.{◌≡◌, ◌+◌, Err, IfErr, take, arith, rules, refl, subst, sym}
use Rattle.std.proofs.lemmas.List.{length-take-le}
use Rattle.store_audit.specs.RowCauses.{StopsFor}
use Rattle.store_audit.proofs.Walking.{stops_here, walked_all, walked_next}
use Rattle.store_audit.proofs.reading.walk_rows.Goals as goal

-- one row more is done again
pub loop-index-preserved : goal.loop-index-preserved
loop-index-preserved c = λ base p.
    let index = c.loop-index.index in
    let rows = c.args.rows.now in
    let less = c.loop-index-test.true in
    let many = length-take-le index rows (omega (arith, less)) in
    walked_next base rows c.walk_row.new.walk c.index-rows-index.result index less c.index-rows-index.is
    (c.in_ok-walk_row.ensures.walked base (take index rows) (c.loop-index.invariant base p) (omega (arith, many)))

-- a row is refused
pub returns-in_err-walk_row-clause-fault : goal.returns-in_err-walk_row-clause-fault
returns-in_err-walk_row-clause-fault c = λ base p.
    let index = c.loop-index.index in
    let rows = c.args.rows.now in
    let same : c.from_residual.result ≡ Err c.in_err-walk_row.field-0.0 = search rules in
    subst (λ r. IfErr r (λ fault. StopsFor base rows fault)) (sym same)
    (stops_here base rows c.loop-index.walk c.index-rows-index.result index (index + 1) c.in_err-walk_row.field-0.0 c.loop-index-test.true c.index-rows-index.is (c.loop-index.invariant base p) refl
    (c.in_err-walk_row.ensures.fault base (take index rows) (c.loop-index.invariant base p)))

-- all rows are done again
pub returns-clause-walked : goal.returns-clause-walked
returns-clause-walked c = λ base p.
    walked_all base c.args.rows.now c.loop-index.walk c.loop-index.index c.loop-index-test.false (c.loop-index.invariant base p)
