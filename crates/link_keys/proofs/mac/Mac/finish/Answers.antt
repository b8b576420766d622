use Rattle.std.proofs.Common.{◌≡◌, ◌++◌, List, ℕ}
use Rattle.sha2.specs.Sha256.{sha256}
use Rattle.link_keys.specs.Macs.{HoldsMessage, mac_of, masked, pad}
use Rattle.link_keys.proofs.mac.Mac.finish.Goals as goal

pub returns : goal.returns
unfolding mac_of
returns c = λ key message holds.
    let key_is : c.args.self.key ≡ key = holds.key_is in
    let inside : c.finalize-inside.result ≡ sha256 (pad key 0x36 ++ message) = c.finalize-inside.ensures _ holds.inner in
    let block = c.masked_key.ensures in
    let outside = c.finalize.ensures _ (c.update-3.ensures _ (c.update-2.ensures _ (c.update.ensures _ c.new-outer.ensures))) in
    cc (outside, inside, block, key_is)
