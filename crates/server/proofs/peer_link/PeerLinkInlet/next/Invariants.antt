use Rattle.std.proofs.Common.{◌≡◌}
use Rattle.server.specs.PeerLinks.{frames_among}
use Rattle.server.proofs.peer_link.PeerLinkInlet.next.Given as goal

-- marks alone were received
abbrev pub invariant-loop : goal.invariant-loop
invariant-loop g l = frames_among l.self.link.received ≡ frames_among l.initial.self.link.received
