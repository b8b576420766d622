use Rattle.std.proofs.Common.{◌≡◌, inl, Err, IfErr, rules, refl, subst, sym}
use Rattle.std.proofs.lemmas.Grind.{merely}
use Rattle.std.proofs.lemmas.List.{nil_from_length}
use Rattle.store_audit.specs.RowCauses.{IsJournalCause}
use Rattle.store_audit.proofs.Walking.{begin_cause, journal_walked, rest_cause, walked_counted}
use Rattle.store_audit.proofs.reading.journal_of_rows.Goals as goal

-- there is no row
pub returns-in_default-clause-fault : goal.returns-in_default-clause-fault
returns-in_default-clause-fault c = inl (nil_from_length c.args.rows.now c.in_default.ensures.cases, refl)

-- the first row is refused
pub returns-in_err-walk-clause-fault : goal.returns-in_err-walk-clause-fault
returns-in_err-walk-clause-fault c =
    let same : c.from_residual.result ≡ Err c.in_err-walk.field-0.0 = search rules in
    subst (λ r. IfErr r (λ fault. IsJournalCause c.args.first c.args.rows.now fault)) (sym same)
    (begin_cause c.args.first c.args.rows.now c.in-Some.row.now c.in-Some.rest.now c.in_err-walk.field-0.0 c.in-Some.ensures.cases.0 c.in_err-walk.ensures.fault)

-- a further row is refused
pub returns-in-Err-clause-fault : goal.returns-in-Err-clause-fault
returns-in-Err-clause-fault c =
    let b = c.in_ok-walk.ensures.begun in
    rest_cause c.args.first c.args.rows.now c.in-Some.row.now c.in-Some.rest.now b.base c.in-Err.fault c.in-Some.ensures.cases.0 b.base_is b.new c.in_ok-walk.ensures.first
    (c.in-Err.ensures.fault b.base b.walked)

-- all rows were done again
pub returns-in-Ok-clause-journal : goal.returns-in-Ok-clause-journal
returns-in-Ok-clause-journal c =
    let b = c.in_ok-walk.ensures.begun in
    journal_walked c.args.rows.now c.in-Some.row.now c.in-Some.rest.now b.base c.walk_rows.new.walk _ c.in-Some.ensures.cases.0 b.base_is (c.in-Ok.ensures.walked b.base b.walked) refl refl refl refl

-- the journal has all steps, and each the position of its row
pub invariant_of-result : goal.invariant_of-result
invariant_of-result c =
    let b = c.in_ok-walk.ensures.begun in
    let walked = c.in-Ok.ensures.walked b.base b.walked in
    record { fresh = merely walked.fresh; counted = walked_counted b.base c.in-Some.rest.now c.walk_rows.new.walk walked }
