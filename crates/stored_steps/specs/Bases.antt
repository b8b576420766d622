-- The bytes of a base: what a store keeps of a site before its steps. Numbers are big-endian.
use Rattle.std.specs.Prelude.{ℕ, ◌≡◌, ◌≢◌, ◌⊎◌, ◌<◌, ◌^◌, List, ◌∷◌, ◌++◌, length}
use Rattle.std.specs.Int.{w16, w64, to_be_bytes}
use Rattle.std.specs.List.{flat_map}
use Rattle.delta.specs.DeltaStates.{DeltaState}
use Rattle.delta.specs.Frames.{frame_of}
use Rattle.delta_codec.specs.Frames.{Spells}
use Rattle.replica.specs.Keeping.{IsBelow, IsKept}
use Rattle.replica.specs.Queues.{AreQueues}
use Rattle.replica.specs.Restoring.{IsRestoreCause, IsRestored}
use Rattle.replica.specs.Site.{IsSameSite, SiteState}
use Rattle.replica.specs.declared.restore_fault.RestoreFault.{RestoreFault}
use Rattle.replica.specs.declared.restore_fault.RestoreFault.TheVariants as restore
use Rattle.stored_steps.specs.declared.base.StoredBase.{StoredBase}
use Rattle.stored_steps.specs.declared.limits.TheConstants.{BASE_VERSION, NAME_BYTES}
use Rattle.stored_steps.specs.declared.row_kind.RowKind.TheVariants.{Base}
use Rattle.stored_steps.specs.Kinds.{kind_number}
use Rattle.stored_steps.specs.Stored.{Stored}

-- a name of a queue: its length, one byte, and its bytes
abbrev pub name_bytes : List ℕ → List ℕ
name_bytes name = length name ∷ name

-- a list of queues: how many there are, two bytes, and their names
abbrev pub list_bytes : List (List ℕ) → List ℕ
list_bytes names = to_be_bytes w16 (length names) ++ flat_map name_bytes names

-- the numbers of a base, eight bytes each: how often the site was started, its last count, time and frame number
abbrev pub numbers_bytes : ℕ → ℕ × ℕ × ℕ → List ℕ
numbers_bytes starts last = to_be_bytes w64 starts ++ (to_be_bytes w64 last.0 ++ (to_be_bytes w64 last.1 ++ to_be_bytes w64 last.2))

-- the last count, time and frame number of a site
abbrev pub last_of : SiteState → ℕ × ℕ × ℕ
last_of s = (s.last_count, s.last_time, s.frames)

-- what stands before the frames: version, site, queues, name of the store, numbers
abbrev pub head_bytes : StoredBase → List ℕ
head_bytes base = BASE_VERSION ∷ base.replica.site ∷ (list_bytes base.replica.names ++ (base.name ++ numbers_bytes base.starts (last_of base.replica)))

-- bytes spell a delta as the site's frame of the number 1
abbrev pub SpellsDelta : ℕ → DeltaState → List ℕ → Type 0
SpellsDelta site delta bytes = Spells (frame_of site 1 delta) bytes

-- bytes spell a base: its head, its state and its buffer
pub record SpellsBase (base : StoredBase) (bytes : List ℕ) : Type 0 where
  pub state : List ℕ
  pub pending : List ℕ
  pub state_is : SpellsDelta base.replica.site base.replica.state state
  pub pending_is : SpellsDelta base.replica.site base.replica.pending pending
  pub is : bytes ≡ head_bytes base ++ (state ++ pending)

-- a base is within the limits of its types
pub record HasLimits (base : StoredBase) : Type 0 where
  pub queues : AreQueues base.replica.names
  pub name : length base.name ≡ NAME_BYTES
  pub starts : base.starts < 2 ^ 64
  pub count : base.replica.last_count < 2 ^ 64
  pub time : base.replica.last_time < 2 ^ 64
  pub frames : base.replica.frames < 2 ^ 64

-- a base is that of a replica
pub record IsBase (base : StoredBase) : Type 0 where
  pub kept : IsKept base.replica
  pub limits : HasLimits base

-- a row is that of a base
pub record IsRowOfBase (base : StoredBase) (row : Stored) : Type 0 where
  pub good : IsBase base
  pub kind : row.kind ≡ kind_number Base
  pub spelled : SpellsBase base row.bytes

-- two bases say the same
pub record IsSameBase (base other : StoredBase) : Type 0 where
  pub site : IsSameSite base.replica other.replica
  pub name : other.name ≡ base.name
  pub starts : other.starts ≡ base.starts

-- the base with these parts in place of its replica
abbrev pub with_parts : SiteState → StoredBase → StoredBase
with_parts parts base = record { replica = parts; name = base.name; starts = base.starts }

-- A base is what its row says: its replica is made of the parts that are spelled there, which are refused for no cause, and says what
-- they say where their buffer is below their state.
pub record IsReadBase (row : Stored) (base : StoredBase) : Type 0 where
  pub parts : SiteState
  pub kind : row.kind ≡ kind_number Base
  pub limits : HasLimits (with_parts parts base)
  pub spelled : SpellsBase (with_parts parts base) row.bytes
  pub accepted : (fault : RestoreFault) → fault ≢ restore.Memory → IsRestoreCause parts fault → ⊥
  pub restored : IsRestored parts base.replica
  pub same : IsBelow parts.pending parts.state → IsSameSite parts base.replica

-- a row is that of a base: as it was written, or as it was read
abbrev pub IsOfBase : StoredBase → Stored → Type 0
IsOfBase base row = IsRowOfBase base row ⊎ IsReadBase row base
