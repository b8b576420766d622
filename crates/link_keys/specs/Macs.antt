-- HMAC-SHA-256 (RFC 2104, FIPS 198-1) under keys of 32 bytes, and the tags of items (this project's own).
use Rattle.std.specs.Prelude.{ℕ, ◌≡◌, ◌++◌, List, bit_xor, map, replicate, take}
use Rattle.std.specs.Int.{to_be_bytes, w64}
use Rattle.sha2.specs.Hashers.{Holds256}
use Rattle.sha2.specs.Sha256.{sha256}
use Rattle.link_keys.specs.declared.mac.Mac.{Mac}

-- each byte of a key, XORed with a mask
abbrev pub masked : List ℕ → ℕ → List ℕ
masked key mask = map (λ b. bit_xor b mask) key

-- a key of 32 bytes and 32 zeros, which are a block of 64, each byte XORed with a mask
abbrev pub pad : List ℕ → ℕ → List ℕ
pad key mask = masked key mask ++ replicate 32 mask

-- the code of a message under a key: HMAC-SHA-256
unfoldable pub mac_of : List ℕ → List ℕ → List ℕ
mac_of key message = sha256 (pad key 0x5C ++ sha256 (pad key 0x36 ++ message))

-- this message was added under this key
pub record HoldsMessage (key message : List ℕ) (mac : Mac) : Type 0 where
  pub key_is : mac.key ≡ key
  pub inner : Holds256 mac.inner (pad key 0x36 ++ message)

-- what a tag is the code of: a counter, eight bytes, and an item
abbrev pub counted : ℕ → List ℕ → List ℕ
counted counter item = to_be_bytes w64 counter ++ item

-- the tag of an item under a key and a counter
abbrev pub tag_of : List ℕ → ℕ → List ℕ → List ℕ
tag_of key counter item = take 16 (mac_of key (counted counter item))
