use Rattle.std.proofs.Common.{◌≡◌, Err, IfErr, IsTrue, true≢false, rules, refl, sym, subst, ◌∙◌, inl, inr}
use Rattle.store_audit.specs.RowCauses.{IsBeginCause}
use Rattle.store_audit.proofs.Walking.{begun, not_begun}
use Rattle.store_audit.proofs.reading.begin.Goals as goal

-- no base is read
pub returns-in_err-replica-clause-fault : goal.returns-in_err-replica-clause-fault
returns-in_err-replica-clause-fault c =
    let same : c.from_residual.result ≡ Err c.in_err-replica.field-0.0 = search rules in
    subst (λ r. IfErr r (λ fault. IsBeginCause c.args.first c.args.row.now fault)) (sym same)
    (not_begun c.args.first c.args.row.now c.in_err-replica.field-0.0 c.in_err-replica.ensures.fault)

-- the base doesn't stand at position 0
pub returns-then-first-ne0-clause-fault : goal.returns-then-first-ne0-clause-fault
returns-then-first-ne0-clause-fault c = inl (c.if-first-ne0.true, record { base = c.in_ok-replica.field-0; base_is = c.in_ok-replica.ensures.read })

-- the base is that of a site that isn't new
pub returns-then-not-is_new-clause-fault : goal.returns-then-not-is_new-clause-fault
returns-then-not-is_new-clause-fault c = inr (record {
  base = c.in_ok-replica.field-0;
  base_is = c.in_ok-replica.ensures.read;
  old = λ new. true≢false (sym (c.is_new.ensures.1 new) ∙ c.if-not-is_new.true);
})

-- the walk begins with the base
pub returns-clause-begun : goal.returns-clause-begun
returns-clause-begun c =
    let base = c.in_ok-replica.field-0 in
    let read = c.in_ok-replica.ensures.read in
    let new = c.is_new.ensures.0 (subst IsTrue (sym c.if-not-is_new.false) refl) in
    record {
      base = base;
      base_is = read;
      new = new;
      walked = begun base _ c.in_ok-journal.ensures new read.limits.starts refl refl c.new-2.ensures.items;
    }
