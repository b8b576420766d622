use Rattle.std.proofs.Common.{◌≡◌, ◌∙◌, ◌<◌, ◌≤◌, ℕ, List, bit_xor, sym, arith, length, map, get_or}
use Rattle.std.proofs.lemmas.List.{ext_get_or, get_or-map, length-map}
use Rattle.link_keys.specs.Macs.{masked}
use Rattle.link_keys.proofs.mac.masked_key.Goals as goal

-- bytes that are changed one by one
each_masked : (bytes key : List ℕ) (mask n : ℕ) → length bytes ≡ 32 → length key ≡ 32 → 32 ≤ n
    → ((k none : ℕ) → k < n → get_or bytes k none ≡ bit_xor (get_or key k none) mask) → bytes ≡ masked key mask
each_masked bytes key mask n len klen all each = ext_get_or 0 bytes (masked key mask)
    (len ∙ sym (length-map key (λ b. bit_xor b mask) ∙ klen))
    (λ i low. each i 0 (omega (arith, low, len, all)) ∙ sym (get_or-map (λ b. bit_xor b mask) key i 0 0 (omega (arith, low, len, klen))))

pub returns : goal.returns
returns c = each_masked c.bytes.bytes c.args.key.now c.args.mask c.bytes.i c.bytes.invariant.0 c.told-key c.bytes-test.false c.bytes.invariant.1
