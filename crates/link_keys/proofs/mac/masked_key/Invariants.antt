use Rattle.std.proofs.Common.{◌≡◌, ℕ, ◌<◌, bit_xor, length, slice_index_or}
use Rattle.link_keys.proofs.mac.masked_key.Given as goal

-- the bytes so far are changed
abbrev pub invariant-bytes : goal.invariant-bytes
invariant-bytes l = (length l.bytes ≡ 32) × ((k : ℕ) (none : ℕ) → k < l.i → slice_index_or l.bytes k none ≡ bit_xor (slice_index_or l.key k none) l.mask)
