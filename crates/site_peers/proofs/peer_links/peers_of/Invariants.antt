use Rattle.std.specs.Prelude.{◌≡◌, length, vec_len}
use Rattle.site_peers.proofs.peer_links.peers_of.Given as goal

-- a peer for each address so far
abbrev pub invariant-loop-address : goal.invariant-loop-address
invariant-loop-address l = vec_len l.peers ≡ length l.yielded
