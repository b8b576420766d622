use Rattle.std.specs.Prelude.{ℕ, ◌≡◌, ◌+◌, List, None}
use Rattle.site_journal.specs.declared.receipt.Receipt.{Receipt}
use Rattle.site_pumps.specs.Broadcasts.{HasBroadcast}
use Rattle.site_pumps.specs.Deeds.{AreCuts}
use Rattle.site_pumps.proofs.broadcasting.broadcast.Given as goal

-- a cut was made at each ring so far, and its frame sent
abbrev pub invariant-loop : goal.invariant-loop
invariant-loop g l = (rung : ℕ) × (receipts : List Receipt)
    × (g.B.Bell.rings l.bell ≡ g.B.Bell.rings l.initial.bell + rung)
    × AreCuts rung receipts
    × HasBroadcast g.P.Port.makes g.P.Port.refuses g.P.Port.share g.O.Outlet.given g.K.ReceiptSink.holds l.initial.port l.port l.initial.outlets l.outlets l.initial.sink l.sink receipts None
    × (g.P.Port.ordinal l.port ≡ g.P.Port.ordinal l.initial.port)
