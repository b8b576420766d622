use Rattle.std.proofs.Common.{◌∷◌, [], inl, inr, refl}
use Rattle.site_journal.specs.declared.desk_fault.DeskFault.TheVariants.{Memory}
use Rattle.site_pumps.proofs.GivenItems.{broadcast_done, broadcast_half, broadcast_refused}
use Rattle.site_pumps.proofs.broadcasting.make_and_send.Goals as goal

-- the sink has no room
pub returns-then-is_err-clause-step : goal.returns-then-is_err-clause-step
returns-then-is_err-clause-step g c = (
  [],
  record { receipt = tt; perhaps = inl refl; refused = λ reported. refl },
  broadcast_refused g.P.Port.makes g.P.Port.refuses g.P.Port.share g.O.Outlet.given g.K.ReceiptSink.holds _ _ _ _ _ Memory (inr (refl, refl)) refl c.prepare.ensures.same,
)

-- the port refuses the call
pub returns-in-Err-clause-step : goal.returns-in-Err-clause-step
returns-in-Err-clause-step g c = (
  [],
  record { receipt = tt; perhaps = inl refl; refused = λ reported. refl },
  broadcast_refused g.P.Port.makes g.P.Port.refuses g.P.Port.share g.O.Outlet.given g.K.ReceiptSink.holds _ _ _ _ _ c.in-Err.fault (inl c.in-Err.ensures.refused) c.in-Err.ensures.kept c.prepare.ensures.same,
)

-- the frame was sent
pub returns-in-Ok-sent-clause-step : goal.returns-in-Ok-sent-clause-step
returns-in-Ok-sent-clause-step g c = let receipt = c.in-Ok.receipt in (
  receipt ∷ [],
  record { receipt = (receipt, c.in-Ok.ensures.deed, refl); perhaps = tt; refused = tt },
  broadcast_done g.P.Port.makes g.P.Port.refuses g.P.Port.share g.O.Outlet.given g.K.ReceiptSink.holds _ _ _ _ _ c.prepare.new.self _ receipt c.in-Ok.ensures.made c.in-Ok.ensures.counted c.prepare.ensures.same c.put.ensures
      c.in-Ok-sent.ensures.ok,
)

-- the frame was sent on some outlets alone
pub returns-in-Err-sent-clause-step : goal.returns-in-Err-sent-clause-step
returns-in-Err-sent-clause-step g c = let receipt = c.in-Ok.receipt in (
  receipt ∷ [],
  record { receipt = tt; perhaps = inr (receipt, c.in-Ok.ensures.deed, refl); refused = λ reported. absurd (cc (reported, c.in-Ok.ensures.well)) },
  broadcast_half g.P.Port.makes g.P.Port.refuses g.P.Port.share g.O.Outlet.given g.K.ReceiptSink.holds _ _ _ _ _ c.prepare.new.self _ receipt c.in-Ok.ensures.made c.in-Ok.ensures.counted c.prepare.ensures.same c.put.ensures
      c.in-Err-sent.ensures.err,
)
