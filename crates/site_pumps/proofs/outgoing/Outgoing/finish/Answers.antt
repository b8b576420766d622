use Rattle.std.proofs.Common.{rules, refl, subst, sym, ap, inl, inr, ◌∙◌, ◌++◌, ◌∷◌, []}
use Rattle.std.proofs.lemmas.Result.{err_from_is_err_and}
use Rattle.site_pumps.specs.Carried.{EachLink}
use Rattle.site_pumps.specs.Deeds.{cut_frames, whole_frames}
use Rattle.site_pumps.specs.Outgoing.{IsFrontOf}
use Rattle.site_pumps.specs.Outlets.{OutletBegins, OutletRun}
use Rattle.site_pumps.specs.Plans.{planned}
use Rattle.site_pumps.proofs.Carrying.{on_err}
use Rattle.site_pumps.proofs.GivenItems.{each_all_begun}
use Rattle.site_pumps.proofs.PortRuns.{run_more, run_same, work_refused, work_stopped}
use Rattle.site_pumps.proofs.UnderWay.{stopped, broken_at_held, broken_at_end, ended, refused_at_end}
use Rattle.site_pumps.proofs.outgoing.Outgoing.finish.Goals as goal

pub returns-then-is_err-clause-err : goal.returns-then-is_err-clause-err
returns-then-is_err-clause-err g c = λ start plan w. subst (λ l. IsFrontOf g.O.Outlet.given plan l start c.args.outlets.now) (sym c.reserve.ensures.items) (stopped g.O.Outlet.given _ _ _ _ _ _ w)

pub returns-in_err-send_each-clause-err : goal.returns-in_err-send_each-clause-err
returns-in_err-send_each-clause-err g c = on_err c.from_residual.result (λ start plan w. subst (λ l. IsFrontOf g.O.Outlet.given plan l start c.send_each.new.outlets) (sym c.reserve.ensures.items)
    (broken_at_held g.O.Outlet.given _ _ _ _ _ _ _ w (subst (λ l. EachLink (OutletBegins g.O.Outlet.given l) c.args.outlets.now c.send_each.new.outlets) c.as_slice.ensures.value c.in_err-send_each.ensures.err)))

pub returns-in_err-receipt-clause-err : goal.returns-in_err-receipt-clause-err
returns-in_err-receipt-clause-err g c = on_err c.from_residual-in_err-receipt.result (λ start plan w. subst (λ l. IsFrontOf g.O.Outlet.given plan l start c.send_each.new.outlets) (sym c.reserve.ensures.items)
    (broken_at_held g.O.Outlet.given _ _ _ _ _ _ _ w (each_all_begun g.O.Outlet.given _ _ _ (subst (λ l. EachLink (OutletRun g.O.Outlet.given l) c.args.outlets.now c.send_each.new.outlets) c.as_slice.ensures.value c.in_ok-send_each.ensures.ok))))

pub returns-in-Ok-clause-ok : goal.returns-in-Ok-clause-ok
returns-in-Ok-clause-ok g c = λ start plan w. subst (λ l. EachLink (OutletRun g.O.Outlet.given (planned plan (cut_frames l) (whole_frames l))) start c.send_whole-sent.new.outlets)
    (sym (c.push_reserved.ensures.items ∙ ap (λ l. l ++ c.in_ok-receipt.receipt ∷ []) c.reserve.ensures.items))
    (ended g.O.Outlet.given _ _ _ _ _ _ _ _ _ c.in_ok-receipt.ensures.deed w (subst (λ l. EachLink (OutletRun g.O.Outlet.given l) c.args.outlets.now c.send_each.new.outlets) c.as_slice.ensures.value c.in_ok-send_each.ensures.ok) c.in-Ok.ensures.ok)

pub returns-in-Err-clause-err : goal.returns-in-Err-clause-err
returns-in-Err-clause-err g c = λ start plan w. subst (λ l. IsFrontOf g.O.Outlet.given plan l start c.send_whole-sent.new.outlets)
    (sym (c.push_reserved.ensures.items ∙ ap (λ l. l ++ c.in_ok-receipt.receipt ∷ []) c.reserve.ensures.items))
    (broken_at_end g.O.Outlet.given _ _ _ _ _ _ _ _ _ c.in_ok-receipt.ensures.deed w (subst (λ l. EachLink (OutletRun g.O.Outlet.given l) c.args.outlets.now c.send_each.new.outlets) c.as_slice.ensures.value c.in_ok-send_each.ensures.ok) c.in-Err.ensures.err)

pub returns-then-is_err-clause-stopped : goal.returns-then-is_err-clause-stopped
returns-then-is_err-clause-stopped g c = λ reported. absurd (cc (reported, c.requires.well))

pub returns-in_err-send_each-clause-stopped : goal.returns-in_err-send_each-clause-stopped
returns-in_err-send_each-clause-stopped g c = let p = err_from_is_err_and c.from_residual.result c.from_residual.ensures.1 in rw (p.1, p.2) (λ reported. absurd (cc (reported, c.requires.well)))

pub returns-in_err-receipt-clause-stopped : goal.returns-in_err-receipt-clause-stopped
returns-in_err-receipt-clause-stopped g c = let p = err_from_is_err_and c.from_residual-in_err-receipt.result c.from_residual-in_err-receipt.ensures.1 in
    rw (p.1, p.2) (λ reported start plan w. refused_at_end g.O.Outlet.given plan _ _ _ _ start _ _ c.reserve.ensures.items w (subst (λ l. EachLink (OutletRun g.O.Outlet.given l) c.args.outlets.now c.send_each.new.outlets) c.as_slice.ensures.value c.in_ok-send_each.ensures.ok))

pub returns-in-Err-clause-stopped : goal.returns-in-Err-clause-stopped
returns-in-Err-clause-stopped g c = λ reported. absurd (cc (reported, c.in_ok-receipt.ensures.well))

pub returns-then-is_err-clause-receipts : goal.returns-then-is_err-clause-receipts
returns-then-is_err-clause-receipts g c = record { receipt = tt; perhaps = inl c.reserve.ensures.items; refused = λ reported. c.reserve.ensures.items }

pub returns-in_err-send_each-clause-receipts : goal.returns-in_err-send_each-clause-receipts
returns-in_err-send_each-clause-receipts g c = let p = err_from_is_err_and c.from_residual.result c.from_residual.ensures.1 in
    rw (p.1, p.2) (record { receipt = tt; perhaps = inl c.reserve.ensures.items; refused = λ reported. c.reserve.ensures.items })

pub returns-in_err-receipt-clause-receipts : goal.returns-in_err-receipt-clause-receipts
returns-in_err-receipt-clause-receipts g c = let p = err_from_is_err_and c.from_residual-in_err-receipt.result c.from_residual-in_err-receipt.ensures.1 in
    rw (p.1, p.2) (record { receipt = tt; perhaps = inl c.reserve.ensures.items; refused = λ reported. c.reserve.ensures.items })

pub returns-in-Ok-clause-receipts : goal.returns-in-Ok-clause-receipts
returns-in-Ok-clause-receipts g c =
    let receipt = c.in_ok-receipt.receipt in
    record { receipt = (receipt, c.in_ok-receipt.ensures.deed, c.push_reserved.ensures.items ∙ ap (λ l. l ++ receipt ∷ []) c.reserve.ensures.items); perhaps = tt; refused = tt }

pub returns-in-Err-clause-receipts : goal.returns-in-Err-clause-receipts
returns-in-Err-clause-receipts g c =
    let receipt = c.in_ok-receipt.receipt in
    record {
      receipt = tt;
      perhaps = inr (receipt, c.in_ok-receipt.ensures.deed, c.push_reserved.ensures.items ∙ ap (λ l. l ++ receipt ∷ []) c.reserve.ensures.items);
      refused = λ reported. absurd (cc (reported, c.in_ok-receipt.ensures.well));
    }

pub returns-then-is_err-clause-port : goal.returns-then-is_err-clause-port
returns-then-is_err-clause-port g c = record {
  run = tt;
  work = λ start run. work_stopped g.P.Port.makes g.P.Port.refuses start _ _ _ refl (run_same g.P.Port.makes start _ _ _ c.reserve.ensures.items run);
  fault = inr refl;
  same = refl;
  done = search rules;
}

pub returns-in_err-send_each-clause-port : goal.returns-in_err-send_each-clause-port
returns-in_err-send_each-clause-port g c = let p = err_from_is_err_and c.from_residual.result c.from_residual.ensures.1 in
    rw (p.1, p.2) (record {
      run = tt;
      work = λ start run. work_stopped g.P.Port.makes g.P.Port.refuses start _ _ _ refl (run_same g.P.Port.makes start _ _ _ c.reserve.ensures.items run);
      fault = inr refl;
      same = refl;
      done = search rules;
    })

pub returns-in_err-receipt-clause-port : goal.returns-in_err-receipt-clause-port
returns-in_err-receipt-clause-port g c = let p = err_from_is_err_and c.from_residual-in_err-receipt.result c.from_residual-in_err-receipt.ensures.1 in
    rw (p.1, p.2) (record {
      run = tt;
      work = λ start run. work_refused g.P.Port.makes g.P.Port.refuses start _ _ _ _ (run_same g.P.Port.makes start _ _ _ c.reserve.ensures.items run) c.in_err-receipt.ensures.refused;
      fault = inl c.in_err-receipt.ensures.recorded;
      same = search rules;
      done = search rules;
    })

pub returns-in-Ok-clause-port : goal.returns-in-Ok-clause-port
returns-in-Ok-clause-port g c = record {
  run = λ start run. run_more g.P.Port.makes start _ _ _ _ _ c.in_ok-receipt.receipt c.push_reserved.ensures.items c.reserve.ensures.items run c.in_ok-receipt.ensures.made;
  work = tt;
  fault = tt;
  same = search rules;
  done = search rules;
}

pub returns-in-Err-clause-port : goal.returns-in-Err-clause-port
returns-in-Err-clause-port g c = record {
  run = tt;
  work = λ start run. work_stopped g.P.Port.makes g.P.Port.refuses start _ _ _ refl
      (run_more g.P.Port.makes start _ _ _ _ _ c.in_ok-receipt.receipt c.push_reserved.ensures.items c.reserve.ensures.items run c.in_ok-receipt.ensures.made);
  fault = inr refl;
  same = search rules;
  done = search rules;
}
