use Rattle.std.proofs.Common.{◌≡◌, length, take, Result, IfErr, subst, ◌∙◌, arith, rules}
use Rattle.stored_steps.specs.declared.store_fault.StoreFault.{StoreFault}
use Rattle.stored_steps.specs.StoreFaults.{IsOutOfRoom}
use Rattle.stored_steps.proofs.Refusing.{next_refused}
use Rattle.stored_steps.proofs.RestoringLaws.{one_more_replayed}
use Rattle.stored_steps.proofs.restoring.replay_rows.Goals as goal

pub loop-row-preserved : goal.loop-row-preserved
loop-row-preserved c = record {
  position = omega (arith, c.loop-row.invariant.position);
  replayed = λ from p. one_more_replayed from c.replay_row.new.journal c.args.rows.now c.row-item.result c.loop-row.row-index c.loop-row-test.true c.row-item.is
      (c.in_ok-replay_row.ensures.replayed from (take c.loop-row.row-index c.args.rows.now) (c.loop-row.invariant.replayed from p));
  limit = c.in_ok-replay_row.ensures.limit ∙ c.loop-row.invariant.limit;
}

pub returns-in_err-replay_row-clause-refused : goal.returns-in_err-replay_row-clause-refused
returns-in_err-replay_row-clause-refused c from to begun lead =
    let same : c.replay_row.result ≡ c.from_residual.result = search rules in
    subst (λ (r : Result (Unit {0}) StoreFault). IfErr r (λ fault. IsOutOfRoom (length c.args.rows.now) fault)) same
    (next_refused from to c.args.rows.now c.loop-row.row-index c.row-item.result c.loop-row.journal c.replay_row.result c.loop-row-test.true c.row-item.is (c.loop-row.invariant.replayed from begun) lead c.replay_row.ensures.refused)
