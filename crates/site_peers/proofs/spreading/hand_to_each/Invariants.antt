use Rattle.std.specs.Prelude.{◌≡◌, false}
use Rattle.site_pumps.specs.Carried.{SoFar}
use Rattle.site_peers.specs.Outboxes.{Handing}
use Rattle.site_peers.proofs.spreading.hand_to_each.Given as goal

abbrev pub invariant-loop-i : goal.invariant-loop-i
invariant-loop-i g l = SoFar (λ old new. Handing g.O.Outbox.handed old l.receipt new) l.initial.outboxes l.outboxes l.i
    × (l.is_whole_wanted ≡ false → SoFar (λ old new. g.O.Outbox.handed old l.receipt false new) l.initial.outboxes l.outboxes l.i)
