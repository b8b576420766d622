use Rattle.std.proofs.Common.{◌≡◌, map, string_bytes, take, vec_len}
use Rattle.site_service.proofs.links.peers_of.Given as goal

-- there are copies of the addresses before this one
abbrev pub invariant-loop-address : goal.invariant-loop-address
invariant-loop-address l = (vec_len l.peers ≡ l.address-index) × (map string_bytes l.peers.items ≡ map string_bytes (take l.address-index l.addresses))
