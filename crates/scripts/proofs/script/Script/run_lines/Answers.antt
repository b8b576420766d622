use Rattle.std.proofs.Common.{◌≡◌, ◌+◌, Result, Err, IsErrAnd, arith, ap, sym, ◌∙◌}
use Rattle.std.proofs.lemmas.Bool.{eqb-true}
use Rattle.std.proofs.lemmas.Result.{err_from_is_err_and}
use Rattle.scripts.specs.declared.script_fault.ScriptFault.{ScriptFault}
use Rattle.scripts.proofs.Running.{going_breaks, going_end, going_on, going_stops, unknown_of}
use Rattle.scripts.proofs.script.Script.run_lines.Goals as goal

same_err : {T : Type 0} (r : Result T ScriptFault) (a b : ScriptFault) → r ≡ Err a → r ≡ Err b → a ≡ b
same_err r a b one other = cc

-- the fault that a `?` hands on is the one that came
came : {T : Type 0} (r : Result T ScriptFault) (fault is : ScriptFault) → IsErrAnd r (λ reported. reported ≡ fault) → r ≡ Err is → fault ≡ is
came r fault is gives by = let reported = err_from_is_err_and r gives in same_err r fault is (reported.1 ∙ ap Err reported.2) by

pub returns-in_err-give_line-clause-memory : goal.returns-in_err-give_line-clause-memory
returns-in_err-give_line-clause-memory g c = λ is w at.
    let memory = came c.from_residual.result c.in_err-give_line.field-0.0 _ c.from_residual.ensures.1 is in
    going_stops _ w c.args.text.now _ c.loop-rest.self.world c.loop-rest.rest.now c.loop-rest.number c.loop-rest.unknown _ _
    (c.loop-rest.invariant.going w at) (c.in_err-give_line.ensures.memory (ap Err memory))

pub returns-in_err-give_line-clause-begun : goal.returns-in_err-give_line-clause-begun
returns-in_err-give_line-clause-begun g c = λ is w at.
    let write = came c.from_residual.result c.in_err-give_line.field-0.0 _ c.from_residual.ensures.1 is in
    going_breaks _ w c.args.text.now _ c.loop-rest.self.world c.loop-rest.rest.now _ c.cut_line.result.1.now c.loop-rest.number c.loop-rest.unknown _ _ _
    (c.loop-rest.invariant.going w at) c.cut_line.ensures.lines c.loop-rest.invariant.place (c.in_err-give_line.ensures.begun (ap Err write))

pub loop-rest-preserved-then-not-branch : goal.loop-rest-preserved-then-not-branch
loop-rest-preserved-then-not-branch g c = record {
  works = c.in_ok-give_line.ensures.works;
  lines = omega (arith, c.loop-rest.invariant.lines, c.cut_line.ensures.shorter);
  unknown = omega (arith, c.loop-rest.invariant.unknown);
  place = c.give_line.ensures.place ∙ c.loop-rest.invariant.place;
  going = λ w at. going_on _ w c.args.text.now _ c.loop-rest.self.world _ c.loop-rest.rest.now _ c.cut_line.result.1.now c.loop-rest.number c.loop-rest.unknown (c.loop-rest.unknown + 1) _ _ _ _
      (c.loop-rest.invariant.going w at) c.cut_line.ensures.lines c.loop-rest.invariant.place c.in_ok-give_line.ensures.ok (ap (λ b. c.loop-rest.unknown + unknown_of b) (sym c.if-not-branch.true));
}

pub loop-rest-preserved : goal.loop-rest-preserved
loop-rest-preserved g c = record {
  works = c.in_ok-give_line.ensures.works;
  lines = omega (arith, c.loop-rest.invariant.lines, c.cut_line.ensures.shorter);
  unknown = omega (arith, c.loop-rest.invariant.unknown);
  place = c.give_line.ensures.place ∙ c.loop-rest.invariant.place;
  going = λ w at. going_on _ w c.args.text.now _ c.loop-rest.self.world _ c.loop-rest.rest.now _ c.cut_line.result.1.now c.loop-rest.number c.loop-rest.unknown c.loop-rest.unknown _ _ _ _
      (c.loop-rest.invariant.going w at) c.cut_line.ensures.lines c.loop-rest.invariant.place c.in_ok-give_line.ensures.ok
      (let same : unknown_of c.in_ok-give_line.field-0 ≡ 0 = ap unknown_of c.if-not-branch.false in omega (arith, same));
}

pub returns-clause-ok : goal.returns-clause-ok
returns-clause-ok g c = λ w at.
    going_end _ w c.args.text.now _ c.loop-rest.self.world c.loop-rest.rest.now c.loop-rest.number c.loop-rest.unknown _ (c.loop-rest.invariant.going w at) (eqb-true _ 0 (sym c.is_empty.ensures ∙ c.loop-rest-test.false))
