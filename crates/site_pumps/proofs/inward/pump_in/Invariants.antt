use Rattle.std.specs.Prelude.{ℕ, ◌≡◌, ◌+◌, ◌++◌, List, length}
use Rattle.site_journal.specs.Ports.{PortRun}
use Rattle.site_journal.specs.declared.receipt.Receipt.{Receipt}
use Rattle.site_pumps.specs.Deeds.{AreTakes}
use Rattle.site_pumps.specs.Inlets.{InletRun}
use Rattle.site_pumps.proofs.inward.pump_in.Given as goal

abbrev pub invariant-loop : goal.invariant-loop
invariant-loop g l = (receipts : List Receipt) × (items : List (List ℕ)) × AreTakes items receipts × InletRun g.I.Inlet.gives l.initial.inlet items l.inlet
    × PortRun g.P.Port.makes l.initial.port receipts l.port
    × (g.P.Port.ordinal l.port ≡ g.P.Port.ordinal l.initial.port)
    × (g.P.Port.share l.port ≡ g.P.Port.share l.initial.port + length receipts)
    × ((before : List Receipt) → g.K.ReceiptSink.holds l.initial.sink before → g.K.ReceiptSink.holds l.sink (before ++ receipts))
