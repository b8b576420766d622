-- What a link carries after its hello: items one way, acknowledgements back (this project's own).
use Rattle.std.specs.Prelude.{ℕ, ◌≡◌, ◌⊎◌, ◌+◌, ◌-◌, ◌^◌, ◌<◌, ◌≤◌, List, [], ◌∷◌, length, min, take}
use Rattle.std.specs.Int.{from_be_bytes, to_be_bytes, w32, w64}
use Rattle.delta_codec.specs.declared.limits.TheConstants.{LEAST_LENGTH, MOST_LENGTH}
use Rattle.link_stream.specs.declared.acknowledgement.Acknowledgement.{Acknowledgement}
use Rattle.link_stream.specs.declared.acknowledgement.Acknowledgement.TheVariants.{Behind, Refused, Taken}
use Rattle.link_stream.specs.declared.item.Item.{Item}
use Rattle.link_stream.specs.declared.item.Item.TheVariants.{Beat, Frame}

-- how many bytes an item has after its first four, as these say
abbrev pub size_in : List ℕ → ℕ
size_in bytes = from_be_bytes w32 (take 4 bytes)

-- a frame may have this many bytes after its length
abbrev pub IsFrameSize : ℕ → Type 0
IsFrameSize size = (LEAST_LENGTH ≤ size) × (size ≤ MOST_LENGTH)

-- a beat or a frame may have this many bytes after its length
abbrev pub IsSize : ℕ → Type 0
IsSize size = (size ≡ 0) ⊎ IsFrameSize size

-- bytes are a length that a frame may have, and as many bytes after it
abbrev pub IsFrame : List ℕ → Type 0
IsFrame bytes = (4 ≤ length bytes) × IsFrameSize (size_in bytes) × (length bytes ≡ 4 + size_in bytes)

-- bytes are a length that an item may have, and as many bytes after it
abbrev pub IsItemBytes : List ℕ → Type 0
IsItemBytes bytes = (4 ≤ length bytes) × IsSize (size_in bytes) × (length bytes ≡ 4 + size_in bytes)

-- the bytes of a beat: a length of 0
abbrev pub beat : List ℕ
beat = 0 ∷ 0 ∷ 0 ∷ 0 ∷ []

-- the bytes of an item
abbrev pub item_bytes : Item → List ℕ
item_bytes Beat = beat
item_bytes (Frame bytes) = bytes

-- the bytes of an item that isn't a beat are a frame's
abbrev pub IsItem : Item → Type 0
IsItem Beat = Unit {0}
IsItem (Frame bytes) = IsFrame bytes

-- bytes begin with a length that no item has
abbrev pub HasBadLength : List ℕ → Type 0
HasBadLength bytes = (4 ≤ length bytes) × (IsSize (size_in bytes) → ⊥)

-- bytes begin with an item of this many bytes, and 16 more for its tag
abbrev pub HasWholeItem : List ℕ → ℕ → Type 0
HasWholeItem bytes size = IsSize (size_in bytes) × (size ≡ 4 + size_in bytes) × (size + 16 ≤ length bytes)

-- bytes are less than an item and its tag, and have no bad length
abbrev pub IsPart : List ℕ → Type 0
IsPart bytes = (length bytes < 4) ⊎ (IsSize (size_in bytes) × (length bytes < 20 + size_in bytes))

-- an acknowledgement as a receiver gives it: its count is less than the numbers of the other two
abbrev pub IsAcknowledgement : Acknowledgement → Type 0
IsAcknowledgement (Taken count) = count < 2 ^ 64 - 2
IsAcknowledgement Behind = Unit {0}
IsAcknowledgement Refused = Unit {0}

-- the bytes of an acknowledgement: how many bytes were taken, or the greatest number but one where the acceptor is behind, and the greatest where a frame was refused
abbrev pub acknowledgement_bytes : Acknowledgement → List ℕ
acknowledgement_bytes (Taken count) = to_be_bytes w64 (min count (2 ^ 64 - 3))
acknowledgement_bytes Behind = to_be_bytes w64 (2 ^ 64 - 2)
acknowledgement_bytes Refused = to_be_bytes w64 (2 ^ 64 - 1)
