use Rattle.std.specs.Prelude.{◌≡◌, List, Option}
use Rattle.site_journal.specs.declared.desk_fault.DeskFault.{DeskFault}
use Rattle.site_journal.specs.declared.receipt.Receipt.{Receipt}
use Rattle.site_peers.specs.Turns.{WorksInTurn}
use Rattle.site_peers.proofs.heard_frames.take_each.Given as goal

-- works were done so far
abbrev pub invariant-loop : goal.invariant-loop
invariant-loop g l = ((works : List (List Receipt × Option DeskFault)) × WorksInTurn g.P.Port.makes g.P.Port.refuses l.initial.port works l.port)
    × (g.P.Port.ordinal l.port ≡ g.P.Port.ordinal l.initial.port)
