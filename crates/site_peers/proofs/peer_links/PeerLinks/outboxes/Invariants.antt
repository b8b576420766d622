use Rattle.std.specs.Prelude.{◌≡◌, vec_len}
use Rattle.site_peers.proofs.peer_links.PeerLinks.outboxes.Given as goal

-- an outbox for each peer so far
abbrev pub invariant-loop-peer : goal.invariant-loop-peer
invariant-loop-peer g l = vec_len l.outboxes ≡ l.peer-index
