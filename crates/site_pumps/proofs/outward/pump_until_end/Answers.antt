use Rattle.std.proofs.Common.{rules, arith, ◌≡◌, ◌+◌, ◌∙◌, [], ap, inl, inr, length, map, refl, true}
use Rattle.std.proofs.lemmas.Result.{err_from_is_err_and, on_ok_weaker, on_err_weaker}
use Rattle.site_journal.specs.declared.receipt.Receipt.{Receipt}
use Rattle.site_pumps.proofs.Carrying.{on_err}
use Rattle.site_pumps.proofs.PortRuns.{both_faults, either_way, if_fault, run_none}
use Rattle.site_pumps.proofs.Receipts.{cuts_long, cuts_more, cuts_perhaps, cuts_whole, whole_perhaps}
use Rattle.site_pumps.proofs.UnderWay.{at_start_of}
use Rattle.site_pumps.proofs.outward.pump_until_end.Goals as goal
use Rattle.site_pumps.proofs.outward.pump_until_end.Goals.{in-None, in-Some+then-not-wait}

pub loop-init : goal.loop-init
loop-init g c = let new = c.requires.new in record {
  cuts = (0, omega arith, ([], refl, ap (map (λ (r : Receipt). r.deed)) new.0));
  under_way = at_start_of g.O.Outlet.given _ _ _ _ _ new.0 new.2 new.1;
  few = omega (arith, new.2);
  run = run_none g.P.Port.makes _ _ new.0;
  ordinal = refl;
  share = omega (arith, new.3);
}

pub loop-preserved : goal.loop-preserved
loop-preserved g c = let was = c.loop.invariant in let cut = c.in_ok-cut.ensures in record {
  cuts = (was.cuts.0 + 1, omega (arith, c.if-not-wait.ensures.rings, was.cuts.1), cuts_more _ _ _ cut.receipts.receipt.0 cut.receipts.receipt.2 cut.receipts.receipt.1 was.cuts.2);
  under_way = cut.ok _ was.under_way;
  few = search rules;
  run = cut.port.run _ was.run;
  ordinal = search rules;
  share = search rules;
}

pub returns-in_err-cut-clause-front : goal.returns-in_err-cut-clause-front
returns-in_err-cut-clause-front g c = on_err c.from_residual.result (c.in_err-cut.ensures.err _ c.loop.invariant.under_way)

pub returns-in_err-cut-2-clause-front : goal.returns-in_err-cut-2-clause-front
returns-in_err-cut-2-clause-front g c = on_err c.from_residual-in_err-cut-2.result (c.in_err-cut-2.ensures.err _ c.loop.invariant.under_way)

pub returns-clause-sent : goal.returns-clause-sent
returns-clause-sent g c = on_ok_weaker c.finish.result (λ f. f _ _ (c.in_ok-cut-2.ensures.ok _ c.loop.invariant.under_way)) c.finish.ensures.ok

pub returns-clause-front : goal.returns-clause-front
returns-clause-front g c = on_err_weaker c.finish.result (λ f. f _ _ (c.in_ok-cut-2.ensures.ok _ c.loop.invariant.under_way)) c.finish.ensures.err

pub returns-clause-receipts : goal.returns-clause-receipts
returns-clause-receipts g c = let was = c.loop.invariant in let cut = c.in_ok-cut-2.ensures in
    let same : g.B.Bell.rings c.match-next.bell ≡ g.B.Bell.rings c.loop.bell = elim c.match-next.branch [ in-None w ↦ ap g.B.Bell.rings w.bell-is | in-Some+then-not-wait w ↦ ap g.B.Bell.rings w.bell-is ∙ w.if-not-wait.ensures.rings ] in
    on_ok_weaker c.finish.result (λ r. (was.cuts.0, same ∙ was.cuts.1, cuts_whole _ _ _ r.0 r.2 r.1 (cuts_more _ _ _ cut.receipts.receipt.0 cut.receipts.receipt.2 cut.receipts.receipt.1 was.cuts.2))) c.finish.ensures.receipts.receipt

pub returns-in_err-cut-clause-cuts : goal.returns-in_err-cut-clause-cuts
returns-in_err-cut-clause-cuts g c = let was = c.loop.invariant in
    (was.cuts.0 + 1, omega (arith, c.if-not-wait.ensures.rings, was.cuts.1), cuts_perhaps was.cuts.0 (was.cuts.0 + 1) _ _ (omega arith) (omega arith) c.in_err-cut.ensures.receipts.perhaps was.cuts.2)

pub returns-in_err-cut-2-clause-cuts : goal.returns-in_err-cut-2-clause-cuts
returns-in_err-cut-2-clause-cuts g c = let was = c.loop.invariant in
    let same : g.B.Bell.rings c.match-next.bell ≡ g.B.Bell.rings c.loop.bell = elim c.match-next.branch [ in-None w ↦ ap g.B.Bell.rings w.bell-is | in-Some+then-not-wait w ↦ ap g.B.Bell.rings w.bell-is ∙ w.if-not-wait.ensures.rings ] in
    (was.cuts.0, same ∙ was.cuts.1, cuts_perhaps was.cuts.0 was.cuts.0 _ _ (omega arith) (omega arith) c.in_err-cut-2.ensures.receipts.perhaps was.cuts.2)

pub returns-clause-cuts : goal.returns-clause-cuts
returns-clause-cuts g c = let was = c.loop.invariant in let cut = c.in_ok-cut-2.ensures in
    let same : g.B.Bell.rings c.match-next.bell ≡ g.B.Bell.rings c.loop.bell = elim c.match-next.branch [ in-None w ↦ ap g.B.Bell.rings w.bell-is | in-Some+then-not-wait w ↦ ap g.B.Bell.rings w.bell-is ∙ w.if-not-wait.ensures.rings ] in
    let cuts = cuts_more _ _ _ cut.receipts.receipt.0 cut.receipts.receipt.2 cut.receipts.receipt.1 was.cuts.2 in (
      was.cuts.0,
      same ∙ was.cuts.1,
      either_way c.finish.result c.finish.ensures.receipts.receipt c.finish.ensures.receipts.perhaps (λ r. (was.cuts.0 + 1, omega arith, omega arith, inr (cuts_whole _ _ _ r.0 r.2 r.1 cuts))) (λ r. whole_perhaps was.cuts.0 _ _ r cuts),
    )

pub returns-in_err-cut-clause-stopped : goal.returns-in_err-cut-clause-stopped
returns-in_err-cut-clause-stopped g c = let p = err_from_is_err_and c.from_residual.result c.from_residual.ensures.1 in
    let was = c.loop.invariant in
    let long = cuts_long _ _ was.cuts.2 in
    rw (p.1, p.2) (λ reported. (
      was.cuts.0 + 1,
      omega (arith, c.if-not-wait.ensures.rings, was.cuts.1),
      inl ((let same = ap length (c.in_err-cut.ensures.receipts.refused reported) in omega (arith, same, long)), (c.in_err-cut.ensures.stopped reported _ was.under_way).carried),
    ))

pub returns-in_err-cut-2-clause-stopped : goal.returns-in_err-cut-2-clause-stopped
returns-in_err-cut-2-clause-stopped g c = let p = err_from_is_err_and c.from_residual-in_err-cut-2.result c.from_residual-in_err-cut-2.ensures.1 in
    let was = c.loop.invariant in
    let long = cuts_long _ _ was.cuts.2 in
    let rings : g.B.Bell.rings c.match-next.bell ≡ g.B.Bell.rings c.loop.bell = elim c.match-next.branch [ in-None w ↦ ap g.B.Bell.rings w.bell-is | in-Some+then-not-wait w ↦ ap g.B.Bell.rings w.bell-is ∙ w.if-not-wait.ensures.rings ] in
    rw (p.1, p.2) (λ reported. (
      was.cuts.0,
      rings ∙ was.cuts.1,
      inl ((let same = ap length (c.in_err-cut-2.ensures.receipts.refused reported) in omega (arith, same, long)), (c.in_err-cut-2.ensures.stopped reported _ was.under_way).carried),
    ))

pub returns-clause-stopped : goal.returns-clause-stopped
returns-clause-stopped g c = let finished : g.B.Bell.ended c.match-next.bell ≡ true = search rules in
    let was = c.loop.invariant in
    let cut = c.in_ok-cut-2.ensures in
    let long = cuts_long _ _ (cuts_more _ _ _ cut.receipts.receipt.0 cut.receipts.receipt.2 cut.receipts.receipt.1 was.cuts.2) in
    let rings : g.B.Bell.rings c.match-next.bell ≡ g.B.Bell.rings c.loop.bell = elim c.match-next.branch [ in-None w ↦ ap g.B.Bell.rings w.bell-is | in-Some+then-not-wait w ↦ ap g.B.Bell.rings w.bell-is ∙ w.if-not-wait.ensures.rings ] in
    both_faults c.finish.result _ _ _ (λ cause f same reported. (
      was.cuts.0,
      rings ∙ was.cuts.1,
      inr (ap length (same reported) ∙ long, finished, f reported _ _ (cut.ok _ was.under_way)),
    )) c.finish.ensures.stopped c.finish.ensures.receipts.refused

pub returns-in_err-cut-clause-work : goal.returns-in_err-cut-clause-work
returns-in_err-cut-clause-work g c = let p = err_from_is_err_and c.from_residual.result c.from_residual.ensures.1 in rw (p.1, p.2) (c.in_err-cut.ensures.port.work _ c.loop.invariant.run)

pub returns-in_err-cut-2-clause-work : goal.returns-in_err-cut-2-clause-work
returns-in_err-cut-2-clause-work g c = let p = err_from_is_err_and c.from_residual-in_err-cut-2.result c.from_residual-in_err-cut-2.ensures.1 in rw (p.1, p.2) (c.in_err-cut-2.ensures.port.work _ c.loop.invariant.run)

pub returns-clause-run : goal.returns-clause-run
returns-clause-run g c = on_ok_weaker c.finish.result (λ f. f _ (c.in_ok-cut-2.ensures.port.run _ c.loop.invariant.run)) c.finish.ensures.port.run

pub returns-clause-work : goal.returns-clause-work
returns-clause-work g c = if_fault c.finish.result _ _ (λ cause f. f _ (c.in_ok-cut-2.ensures.port.run _ c.loop.invariant.run)) c.finish.ensures.port.work
