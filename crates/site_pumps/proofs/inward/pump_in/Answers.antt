use Rattle.std.proofs.Common.{rules, refl, sym, subst, ◌+◌, ◌++◌, ◌∷◌, [], append_assoc, append-nil, arith, length-append}
use Rattle.site_pumps.specs.Inlets.{InletRun}
use Rattle.site_pumps.proofs.InletRuns.{inlet_more}
use Rattle.site_pumps.proofs.PortRuns.{run_more, work_refused, work_stopped}
use Rattle.site_pumps.proofs.Receipts.{takes_more}
use Rattle.site_pumps.proofs.inward.pump_in.Goals as goal

-- nothing yet
pub loop-init : goal.loop-init
loop-init g c = ([], [], refl, refl, refl, refl, omega arith, λ before holds. subst (g.K.ReceiptSink.holds c.args.sink.now) (sym (append-nil before)) holds)

-- one take more
pub loop-preserved : goal.loop-preserved
loop-preserved g c =
    let was = c.loop.invariant in
    let bytes = c.in-Some-next.bytes in
    let receipt = c.in-Ok.receipt in
    let counted = c.in-Ok.ensures.counted in (
      was.0 ++ receipt ∷ [],
      was.1 ++ bytes ∷ [],
      takes_more was.1 bytes was.0 _ receipt refl c.in-Ok.ensures.deed was.2,
      inlet_more g.I.Inlet.gives was.1 bytes _ _ _ was.3 c.in-Some-next.ensures.given,
      run_more g.P.Port.makes _ _ _ was.0 was.0 _ receipt refl refl was.4 c.in-Ok.ensures.made,
      search rules,
      omega (arith, counted, was.6, length-append was.0 (receipt ∷ [])),
      λ before holds. subst (g.K.ReceiptSink.holds c.put.new.self) (append_assoc before was.0 (receipt ∷ [])) (c.put.ensures (before ++ was.0) (c.prepare.ensures.same (before ++ was.0) (was.7 before holds))),
    )

-- the port has refused a take
pub returns-in-Err-clause-pumped : goal.returns-in-Err-clause-pumped
returns-in-Err-clause-pumped g c =
    let was = c.loop.invariant in
    let bytes = c.in-Some-next.bytes in
    let kept = c.in-Err.ensures.kept in record {
      receipts = was.0;
      items = was.1;
      takes = was.2;
      came = subst (λ x. InletRun g.I.Inlet.gives c.args.inlet.now (was.1 ++ x ∷ []) c.next-in-loop.new.self) (sym c.in-Err.ensures.back) (inlet_more g.I.Inlet.gives was.1 bytes _ _ _ was.3 c.in-Some-next.ensures.given);
      work = work_refused g.P.Port.makes g.P.Port.refuses _ _ _ _ _ was.4 c.in-Err.ensures.refused;
      counted = omega (arith, kept, was.6);
      held = λ before holds. c.prepare.ensures.same (before ++ was.0) (was.7 before holds);
    }

-- the inlet has ended
pub returns-in_default-clause-pumped : goal.returns-in_default-clause-pumped
returns-in_default-clause-pumped g c = let was = c.loop.invariant in record {
  receipts = was.0;
  items = was.1;
  takes = was.2;
  came = rw (append-nil was.1) (c.loop.inlet, was.3, c.in_default.ensures.ended);
  work = was.4;
  counted = was.6;
  held = λ before holds. c.prepare.ensures.same (before ++ was.0) (was.7 before holds);
}

-- the sink has no room
pub returns-then-is_err-clause-pumped : goal.returns-then-is_err-clause-pumped
returns-then-is_err-clause-pumped g c = let was = c.loop.invariant in record {
  receipts = was.0;
  items = was.1;
  takes = was.2;
  came = rw (append-nil was.1) was.3;
  work = work_stopped g.P.Port.makes g.P.Port.refuses _ _ _ _ refl was.4;
  counted = was.6;
  held = λ before holds. c.prepare.ensures.same (before ++ was.0) (was.7 before holds);
}
