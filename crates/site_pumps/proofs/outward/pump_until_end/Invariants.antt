use Rattle.std.specs.Prelude.{ℕ, ◌≡◌, ◌+◌, ◌≤◌, vec_len}
use Rattle.site_journal.specs.Ports.{PortRun}
use Rattle.site_pumps.specs.Outgoing.{IsUnderWay}
use Rattle.site_pumps.specs.Deeds.{AreCuts}
use Rattle.site_pumps.proofs.outward.pump_until_end.Given as goal

abbrev pub invariant-loop : goal.invariant-loop
invariant-loop g l = record {
  cuts : (rung : ℕ) × (g.B.Bell.rings l.bell ≡ g.B.Bell.rings l.initial.bell + rung) × AreCuts rung l.outgoing.receipts.items;
  under_way : IsUnderWay g.O.Outlet.given l.plan l.outgoing.receipts.items l.outgoing.used l.outgoing.held.items l.initial.outlets l.outlets;
  few : l.outgoing.used ≤ vec_len l.outgoing.receipts;
  run : PortRun g.P.Port.makes l.initial.port l.outgoing.receipts.items l.port;
  ordinal : g.P.Port.ordinal l.port ≡ g.P.Port.ordinal l.initial.port;
  share : g.P.Port.share l.port ≡ g.P.Port.share l.initial.port + vec_len l.outgoing.receipts;
}
