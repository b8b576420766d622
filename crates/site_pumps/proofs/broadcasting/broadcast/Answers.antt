use Rattle.std.proofs.Common.{rules, ◌≡◌, ◌∙◌, ◌+◌, ◌++◌, [], None, Some, ap, arith, inr, refl}
use Rattle.std.proofs.lemmas.Result.{on_ok_weaker}
use Rattle.std.specs.Result.{result_err}
use Rattle.site_journal.specs.Receipts.{IsOfCut, IsOfWhole}
use Rattle.site_pumps.specs.Deeds.{AreCuts}
use Rattle.site_pumps.proofs.GivenItems.{behind_perhaps, broadcast_more, broadcast_none}
use Rattle.site_pumps.proofs.PortRuns.{either_way}
use Rattle.site_pumps.proofs.Receipts.{cuts_more, cuts_perhaps, cuts_whole, whole_perhaps}
use Rattle.site_pumps.proofs.broadcasting.broadcast.Goals as goal
use Rattle.site_pumps.proofs.broadcasting.broadcast.Goals.{in-None, in-Some+then-not-wait}

-- no ring yet
pub loop-init : goal.loop-init
loop-init g c = (0, [], omega arith, ([], refl, refl), broadcast_none g.P.Port.makes g.P.Port.refuses g.P.Port.share g.O.Outlet.given g.K.ReceiptSink.holds _ _ _, refl)

-- a ring more
pub loop-preserved : goal.loop-preserved
loop-preserved g c = let was = c.loop.invariant in let step = c.in_default.ensures.step in (
  was.0 + 1,
  was.1 ++ step.0,
  omega (arith, c.if-not-wait.ensures.rings, was.2),
  cuts_more was.0 was.1 _ step.1.receipt.0 (ap (λ l. was.1 ++ l) step.1.receipt.2) step.1.receipt.1 was.3,
  broadcast_more g.P.Port.makes g.P.Port.refuses g.P.Port.share g.O.Outlet.given g.K.ReceiptSink.holds _ _ _ _ _ _ _ _ _ was.1 step.0 None was.4 step.2,
  search rules,
)

-- a fault at a ring
pub returns-in-Err-clause-broadcast : goal.returns-in-Err-clause-broadcast
returns-in-Err-clause-broadcast g c = let was = c.loop.invariant in let step = c.in-Err.ensures.step in (
  was.0 + 1,
  was.1 ++ step.0,
  omega (arith, c.if-not-wait.ensures.rings, was.2),
  cuts_perhaps was.0 (was.0 + 1) was.1 _ (omega arith) (omega arith) (behind_perhaps IsOfCut was.1 step.0 step.1.perhaps) was.3,
  tt,
  broadcast_more g.P.Port.makes g.P.Port.refuses g.P.Port.share g.O.Outlet.given g.K.ReceiptSink.holds _ _ _ _ _ _ _ _ _ was.1 step.0 (Some c.in-Err.fault) was.4 step.2,
)

pub returns-in-Err-clause-ordinal : goal.returns-in-Err-clause-ordinal
returns-in-Err-clause-ordinal g c = c.in-Err.ensures.ordinal ∙ c.loop.invariant.5

-- a fault at the cut after the last ring
pub returns-in-Err-make_and_send-clause-broadcast : goal.returns-in-Err-make_and_send-clause-broadcast
returns-in-Err-make_and_send-clause-broadcast g c =
    let was = c.loop.invariant in
    let step = c.in-Err-make_and_send.ensures.step in
    let same : g.B.Bell.rings c.match-next.bell ≡ g.B.Bell.rings c.loop.bell = elim c.match-next.branch [ in-None w ↦ ap g.B.Bell.rings w.bell-is | in-Some+then-not-wait w ↦ ap g.B.Bell.rings w.bell-is ∙ w.if-not-wait.ensures.rings ] in (
      was.0,
      was.1 ++ step.0,
      same ∙ was.2,
      cuts_perhaps was.0 was.0 was.1 _ (omega arith) (omega arith) (behind_perhaps IsOfCut was.1 step.0 step.1.perhaps) was.3,
      tt,
      broadcast_more g.P.Port.makes g.P.Port.refuses g.P.Port.share g.O.Outlet.given g.K.ReceiptSink.holds _ _ _ _ _ _ _ _ _ was.1 step.0 (Some c.in-Err-make_and_send.fault) was.4 step.2,
    )

pub returns-in-Err-make_and_send-clause-ordinal : goal.returns-in-Err-make_and_send-clause-ordinal
returns-in-Err-make_and_send-clause-ordinal g c = c.in-Err-make_and_send.ensures.ordinal ∙ c.loop.invariant.5

-- the frame of all, or a fault at it
pub returns-clause-broadcast : goal.returns-clause-broadcast
returns-clause-broadcast g c =
    let was = c.loop.invariant in
    let step = c.in_default-make_and_send.ensures.step in
    let whole = c.broadcast_whole.ensures.step in
    let same : g.B.Bell.rings c.match-next.bell ≡ g.B.Bell.rings c.loop.bell = elim c.match-next.branch [ in-None w ↦ ap g.B.Bell.rings w.bell-is | in-Some+then-not-wait w ↦ ap g.B.Bell.rings w.bell-is ∙ w.if-not-wait.ensures.rings ] in
    let all = was.1 ++ step.0 in
    let cuts : AreCuts (was.0 + 1) all = cuts_more was.0 was.1 _ step.1.receipt.0 (ap (λ l. was.1 ++ l) step.1.receipt.2) step.1.receipt.1 was.3 in
    let done = broadcast_more g.P.Port.makes g.P.Port.refuses g.P.Port.share g.O.Outlet.given g.K.ReceiptSink.holds _ _ _ _ _ _ _ _ _ was.1 step.0 None was.4 step.2 in (
      was.0,
      all ++ whole.0,
      same ∙ was.2,
      either_way c.broadcast_whole.result whole.1.receipt whole.1.perhaps (λ r. (was.0 + 1, omega arith, omega arith, inr (cuts_whole (was.0 + 1) all _ r.0 (ap (λ l. all ++ l) r.2) r.1 cuts)))
          (λ r. whole_perhaps was.0 all _ (behind_perhaps IsOfWhole all whole.0 r) cuts),
      on_ok_weaker c.broadcast_whole.result (λ r. cuts_whole (was.0 + 1) all _ r.0 (ap (λ l. all ++ l) r.2) r.1 cuts) whole.1.receipt,
      broadcast_more g.P.Port.makes g.P.Port.refuses g.P.Port.share g.O.Outlet.given g.K.ReceiptSink.holds _ _ _ _ _ _ _ _ _ all whole.0 (result_err c.broadcast_whole.result) done whole.2,
    )

pub returns-clause-ordinal : goal.returns-clause-ordinal
returns-clause-ordinal g c = c.broadcast_whole.ensures.ordinal ∙ (c.in_default-make_and_send.ensures.ordinal ∙ c.loop.invariant.5)
