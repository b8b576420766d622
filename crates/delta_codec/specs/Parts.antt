-- The parts of a frame: the bytes of each, and the values within its limits. Numbers are big-endian.
use Rattle.std.specs.Prelude.{ℕ, ⊤, ◌≤◌, ◌+◌, ◌*◌, ◌==◌, Bool, true, false, List, [], ◌∷◌, ◌++◌, length, Option, Some, None, IfSome, is_some, if◌then◌else◌}
use Rattle.std.specs.Int.{w16, w32, w64, to_be_bytes}
use Rattle.std.specs.List.{All, flat_map}
use Rattle.dots.specs.declared.call_totals.CallTotals.{CallTotals}
use Rattle.dots.specs.declared.label.Label.{Label}
use Rattle.operations.specs.Conditions.{DotFields}
use Rattle.dots.specs.DotSets.{Run}
use Rattle.operations.specs.Registers.{Entry}
use Rattle.operations.specs.Totals.{Key}
use Rattle.dots.specs.Values.{Dot, Stamp, PauseState, IsPenalty}
use Rattle.dots.specs.WithinLimits.{IsDot, IsMember, IsPause, IsLabel, IsStamp}
use Rattle.member_orset.specs.Members.{HasField, Holding}
use Rattle.delta_codec.specs.declared.limits.TheConstants.{OLDEST_VERSION}

-- a live dot with its member and fields
abbrev pub CellParts : Type 0
CellParts = Dot × Holding

-- the calls that a site has counted in a queue
abbrev pub TotalParts : Type 0
TotalParts = Key × CallTotals

-- ---- the bytes of each part

-- one byte
abbrev pub byte : ℕ → List ℕ
byte n = n ∷ []

-- a text: its number of bytes, one byte, and these
abbrev pub text_bytes : List ℕ → List ℕ
text_bytes text = length text ∷ text

-- a dot: site, one byte, and count, eight
abbrev pub dot_bytes : Dot → List ℕ
dot_bytes dot = dot.site ∷ to_be_bytes w64 dot.count

-- a run: site, one byte, first and last, eight each
abbrev pub run_bytes : Run → List ℕ
run_bytes run = run.site ∷ (to_be_bytes w64 run.first ++ to_be_bytes w64 run.last)

-- a stamp: time, eight bytes, and site, one
abbrev pub stamp_bytes : Stamp → List ℕ
stamp_bytes stamp = to_be_bytes w64 stamp.time ++ byte stamp.site

-- a penalty: four bytes
abbrev pub penalty_bytes : ℕ → List ℕ
penalty_bytes penalty = to_be_bytes w32 penalty

-- 1 for true and 0 for false
abbrev pub bit_of : Bool → ℕ
bit_of true = 1
bit_of false = 0

-- a pause: whether the member is paused, and the reason
abbrev pub pause_bytes : PauseState → List ℕ
pause_bytes pause = bit_of pause.paused ∷ text_bytes pause.reason

-- a label: the member name, and the state interface
abbrev pub label_bytes : Label → List ℕ
label_bytes label = text_bytes label.name ++ text_bytes label.state

-- a ring: 1 for true and 0 for false
abbrev pub ring_bytes : Bool → List ℕ
ring_bytes ring = byte (bit_of ring)

-- a field that is set: its stamp and its value; one that isn't has no bytes
abbrev pub field_bytes : {T : Type 0} → (T → List ℕ) → Option (Entry T) → List ℕ
field_bytes value None = []
field_bytes value (Some entry) = stamp_bytes entry.stamp ++ value entry.value

-- which fields are set: 1 for the penalty, 2 for the pause, 4 for the label, 8 for the ring, added up
abbrev pub flags_of : DotFields → ℕ
flags_of fields = bit_of (is_some fields.penalty) + (2 * bit_of (is_some fields.pause) + (4 * bit_of (is_some fields.label) + 8 * bit_of (is_some fields.ring)))

-- the greatest flags of a version, with which all its fields are set: the oldest has no ring
abbrev pub most_flags : ℕ → ℕ
most_flags version = if version == OLDEST_VERSION then 7 else 15

-- fields: the flags, and then each field that is set
abbrev pub fields_bytes : DotFields → List ℕ
fields_bytes fields = flags_of fields ∷ (field_bytes penalty_bytes fields.penalty ++ (field_bytes pause_bytes fields.pause ++ (field_bytes label_bytes fields.label ++ field_bytes ring_bytes fields.ring)))

-- a cell: the dot, the queue, two bytes, the interface and the fields
abbrev pub cell_bytes : CellParts → List ℕ
cell_bytes cell = dot_bytes cell.0 ++ (to_be_bytes w16 cell.1.0.queue ++ (text_bytes cell.1.0.interface ++ fields_bytes cell.1.1))

-- totals: site, one byte, queue, two, completed and abandoned calls, eight each
abbrev pub total_bytes : TotalParts → List ℕ
total_bytes total = total.0.site ∷ (to_be_bytes w16 total.0.queue ++ (to_be_bytes w64 total.1.completed ++ to_be_bytes w64 total.1.abandoned))

-- a list: the number of its elements, four bytes, and each
abbrev pub list_bytes : {A : Type 0} → (A → List ℕ) → List A → List ℕ
list_bytes spell xs = to_be_bytes w32 (length xs) ++ flat_map spell xs

-- ---- the values of each part

-- a field that is set has a stamp and a value within their limits
pub record IsEntry {T : Type 0} (IsValue : T → Type 0) (entry : Entry T) : Type 0 where
  pub stamp : IsStamp entry.stamp
  pub value : IsValue entry.value

-- a field is within its limits where it is set
abbrev pub IsField : {T : Type 0} → (T → Type 0) → Option (Entry T) → Type 0
IsField IsValue field = IfSome field (IsEntry IsValue)

-- a ring is true or false, and both are within its limits
abbrev pub IsRing : Bool → Type 0
IsRing ring = ⊤

-- fields are within their limits, each where it is set
pub record AreInLimits (fields : DotFields) : Type 0 where
  pub penalty : IsField IsPenalty fields.penalty
  pub pause : IsField IsPause fields.pause
  pub label : IsField IsLabel fields.label
  pub ring : IsField IsRing fields.ring

-- fields of a version: at least one is set, and none that the version lacks
pub record AreFields (version : ℕ) (fields : DotFields) : Type 0 where
  pub within : AreInLimits fields
  pub some : HasField fields
  pub of_version : flags_of fields ≤ most_flags version

-- a cell of a version: of a dot, a member and fields within their limits
pub record IsCell (version : ℕ) (cell : CellParts) : Type 0 where
  pub dot : IsDot cell.0
  pub member : IsMember cell.1.0
  pub fields : AreFields version cell.1.1

-- a list of the format: each of its elements is within the limits, they stand in order, and there are few enough
pub record IsListOf {A : Type 0} (IsGood : A → Type 0) (AreInOrder : List A → Type 0) (most : ℕ) (xs : List A) : Type 0 where
  pub each : All IsGood xs
  pub order : AreInOrder xs
  pub few : length xs ≤ most
