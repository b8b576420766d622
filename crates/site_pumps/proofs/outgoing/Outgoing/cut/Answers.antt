use Rattle.std.proofs.Common.{rules, ◌∙◌, ◌++◌, ◌∷◌, [], Global, Vec, ap, inl, inr, refl, subst, sym}
use Rattle.std.proofs.lemmas.Result.{err_from_is_err_and}
use Rattle.site_journal.specs.declared.receipt.Receipt.{Receipt}
use Rattle.site_pumps.proofs.Carrying.{on_err}
use Rattle.site_pumps.proofs.PortRuns.{each_fault, if_memory, run_more, run_same, whatever, work_refused, work_stopped}
use Rattle.site_pumps.proofs.UnderWay.{stopped}
use Rattle.site_pumps.specs.Outgoing.{IsFrontOf, IsUnderWay}
use Rattle.site_pumps.proofs.outgoing.Outgoing.cut.Goals as goal

pub returns-then-is_err-clause-err : goal.returns-then-is_err-clause-err
returns-then-is_err-clause-err g c = λ start w. subst (λ l. IsFrontOf g.O.Outlet.given c.args.plan.now l start c.args.outlets.now) (sym c.reserve.ensures.items) (stopped g.O.Outlet.given _ _ _ _ _ _ w)

pub returns-in_err-receipt-clause-err : goal.returns-in_err-receipt-clause-err
returns-in_err-receipt-clause-err g c = on_err c.from_residual.result (λ start w. subst (λ l. IsFrontOf g.O.Outlet.given c.args.plan.now l start c.args.outlets.now) (sym c.reserve.ensures.items) (stopped g.O.Outlet.given _ _ _ _ _ _ w))

pub returns-then-is_err-clause-stopped : goal.returns-then-is_err-clause-stopped
returns-then-is_err-clause-stopped g c = λ reported start w. subst (λ l. IsUnderWay g.O.Outlet.given c.args.plan.now l c.args.self.now.used c.args.self.now.held.items start c.args.outlets.now) (sym c.reserve.ensures.items) w

pub returns-in_err-receipt-clause-stopped : goal.returns-in_err-receipt-clause-stopped
returns-in_err-receipt-clause-stopped g c = let p = err_from_is_err_and c.from_residual.result c.from_residual.ensures.1 in
    rw (p.1, p.2) (λ reported start w. subst (λ l. IsUnderWay g.O.Outlet.given c.args.plan.now l c.args.self.now.used c.args.self.now.held.items start c.args.outlets.now) (sym c.reserve.ensures.items) w)

pub returns-clause-stopped : goal.returns-clause-stopped
returns-clause-stopped g c = each_fault c.send_cut-sent.result _ (λ cause reported. absurd (cc (reported, c.in_ok-receipt.ensures.well)))

pub returns-clause-well : goal.returns-clause-well
returns-clause-well g c = whatever c.send_cut-sent.result c.in_ok-receipt.ensures.well

pub returns-then-is_err-clause-receipts : goal.returns-then-is_err-clause-receipts
returns-then-is_err-clause-receipts g c = record { receipt = tt; perhaps = inl c.reserve.ensures.items; refused = λ reported. c.reserve.ensures.items }

pub returns-in_err-receipt-clause-receipts : goal.returns-in_err-receipt-clause-receipts
returns-in_err-receipt-clause-receipts g c = let p = err_from_is_err_and c.from_residual.result c.from_residual.ensures.1 in
    rw (p.1, p.2) (record { receipt = tt; perhaps = inl c.reserve.ensures.items; refused = λ reported. c.reserve.ensures.items })

pub returns-clause-receipts : goal.returns-clause-receipts
returns-clause-receipts g c =
    let receipt = c.in_ok-receipt.receipt in
    let room = ap (λ (v : Vec Receipt Global). v.items) c.send_cut-sent.ensures.receipts ∙ c.reserve.ensures.items in
    let more = c.push_reserved.ensures.items ∙ ap (λ l. l ++ receipt ∷ []) room in
    record {
      receipt = whatever c.send_cut-sent.result (receipt, c.in_ok-receipt.ensures.deed, more);
      perhaps = on_err c.send_cut-sent.result (inr (receipt, c.in_ok-receipt.ensures.deed, more));
      refused = each_fault c.send_cut-sent.result _ (λ cause reported. absurd (cc (reported, c.in_ok-receipt.ensures.well)));
    }

pub returns-then-is_err-clause-port : goal.returns-then-is_err-clause-port
returns-then-is_err-clause-port g c = record {
  run = tt;
  work = λ start run. work_stopped g.P.Port.makes g.P.Port.refuses start _ _ _ refl (run_same g.P.Port.makes start _ _ _ c.reserve.ensures.items run);
  fault = inr refl;
  same = refl;
  done = search rules;
}

pub returns-in_err-receipt-clause-port : goal.returns-in_err-receipt-clause-port
returns-in_err-receipt-clause-port g c = let p = err_from_is_err_and c.from_residual.result c.from_residual.ensures.1 in
    rw (p.1, p.2) (record {
      run = tt;
      work = λ start run. work_refused g.P.Port.makes g.P.Port.refuses start _ _ _ _ (run_same g.P.Port.makes start _ _ _ c.reserve.ensures.items run) c.in_err-receipt.ensures.refused;
      fault = inl c.in_err-receipt.ensures.recorded;
      same = search rules;
      done = search rules;
    })

pub returns-clause-port : goal.returns-clause-port
returns-clause-port g c =
    let receipt = c.in_ok-receipt.receipt in
    let room = ap (λ (v : Vec Receipt Global). v.items) c.send_cut-sent.ensures.receipts ∙ c.reserve.ensures.items in
    record {
      run = whatever c.send_cut-sent.result (λ start run. run_more g.P.Port.makes start _ _ _ _ _ receipt c.push_reserved.ensures.items room run c.in_ok-receipt.ensures.made);
      work = if_memory c.send_cut-sent.result _ c.send_cut-sent.ensures.memory (λ cause memory start run.
          work_stopped g.P.Port.makes g.P.Port.refuses start _ _ _ memory (run_more g.P.Port.makes start _ _ _ _ _ receipt c.push_reserved.ensures.items room run c.in_ok-receipt.ensures.made));
      fault = if_memory c.send_cut-sent.result _ c.send_cut-sent.ensures.memory (λ cause memory. inr memory);
      same = search rules;
      done = search rules;
    }
