use Rattle.std.specs.Prelude.{◌≡◌, None, false}
use Rattle.site_peers.proofs.ReceivedItems.{AreBeats}
use Rattle.site_peers.proofs.receiving.next_frame.Given as goal

-- only beats were received so far
abbrev pub invariant-loop : goal.invariant-loop
invariant-loop g l = AreBeats (g.S.Source.left l.initial.source) (g.S.Source.left l.source) l.initial.receiver.stream l.receiver.stream
    × (g.S.Source.failed l.source ≡ false) × (l.receiver.fault ≡ None)
