use Rattle.std.specs.Prelude.{ℕ, ◌≡◌, ◌+◌, List, None}
use Rattle.site_journal.specs.declared.receipt.Receipt.{Receipt}
use Rattle.site_peers.specs.Outboxes.{HasSpread, cut_count}
use Rattle.site_peers.proofs.spreading.spread.Given as goal

-- a cut was made at each ring so far
abbrev pub invariant-loop : goal.invariant-loop
invariant-loop g l = (rung : ℕ) × (receipts : List Receipt)
    × (g.B.Bell.rings l.bell ≡ g.B.Bell.rings l.initial.bell + rung)
    × HasSpread g.P.Port.makes g.P.Port.refuses g.O.Outbox.handed l.initial.port l.port l.initial.outboxes l.outboxes receipts None
    × (cut_count receipts ≡ rung)
    × (g.P.Port.ordinal l.port ≡ g.P.Port.ordinal l.initial.port)
