-- Why no base is read of a row, and why no heading is: each cause where no cause before it applies.
use Rattle.std.specs.Prelude.{ℕ, ◌≡◌, ◌≢◌, ◌≤◌, ◌<◌, ◌+◌, ◌⊎◌, List, [], ◌∷◌, ◌++◌, length, take}
use Rattle.std.specs.List.{All, flat_map}
use Rattle.dots.specs.Values.{IsName, IsSite}
use Rattle.delta.specs.DeltaStates.{DeltaState}
use Rattle.delta.specs.declared.frame.Frame.{Frame}
use Rattle.delta_codec.specs.Faults.{HasFault}
use Rattle.delta_codec.specs.Frames.{Spells}
use Rattle.replica.specs.Queues.{AreQueues}
use Rattle.replica.specs.Restoring.{IsRestoreCause, parts_of}
use Rattle.replica.specs.declared.restore_fault.RestoreFault.{RestoreFault}
use Rattle.replica.specs.declared.restore_fault.RestoreFault.TheVariants as restore
use Rattle.stored_steps.specs.declared.base.StoredBase.{StoredBase}
use Rattle.stored_steps.specs.declared.base_fault.BaseFault.{BaseFault}
use Rattle.stored_steps.specs.declared.base_fault.BaseFault.TheVariants.{NoBase, BadVersion, WrongSite, WrongList, Truncated, Decode, WrongFrame, Trailing, Parts, Memory}
use Rattle.stored_steps.specs.declared.limits.TheConstants.{BASE_VERSION, NAME_BYTES}
use Rattle.stored_steps.specs.declared.row_kind.RowKind.TheVariants.{Base}
use Rattle.stored_steps.specs.Bases.{IsReadBase, list_bytes, name_bytes}
use Rattle.stored_steps.specs.BaseReading.{HasParts, IsDeltaAtFront, IsHead}
use Rattle.stored_steps.specs.Kinds.{kind_number}
use Rattle.stored_steps.specs.Stored.{Stored}

-- ---- version, site and queues

-- a row is of the kind of a base, and its bytes are the version and `rest`
pub record IsVersioned (row : Stored) (rest : List ℕ) : Type 0 where
  pub kind : row.kind ≡ kind_number Base
  pub is : row.bytes ≡ BASE_VERSION ∷ rest

-- a row of the kind of a base doesn't begin with the version
pub record IsOfOtherVersion (row : Stored) : Type 0 where
  pub kind : row.kind ≡ kind_number Base
  pub other : (rest : List ℕ) → row.bytes ≢ BASE_VERSION ∷ rest

-- the byte behind the version isn't that of this site
pub record IsOfOtherSite (site : ℕ) (row : Stored) : Type 0 where
  pub number : ℕ
  pub rest : List ℕ
  pub front : IsVersioned row (number ∷ rest)
  pub other : number ≢ site

-- the byte behind the version is that of no site
pub record IsOfNoSite (row : Stored) : Type 0 where
  pub number : ℕ
  pub rest : List ℕ
  pub front : IsVersioned row (number ∷ rest)
  pub none : IsSite number → ⊥

-- this list of queues doesn't follow the site
pub record IsOfOtherList (site : ℕ) (names : List (List ℕ)) (row : Stored) : Type 0 where
  pub rest : List ℕ
  pub front : IsVersioned row (site ∷ rest)
  pub other : (more : List ℕ) → rest ≢ list_bytes names ++ more

-- behind a site the bytes end before the number of queues does
pub record EndsBeforeQueues (row : Stored) : Type 0 where
  pub site : ℕ
  pub rest : List ℕ
  pub front : IsVersioned row (site ∷ rest)
  pub of : IsSite site
  pub short : length rest < 2

-- behind a site and a number of queues no list of queues is there
pub record HasNoList (row : Stored) : Type 0 where
  pub site : ℕ
  pub rest : List ℕ
  pub front : IsVersioned row (site ∷ rest)
  pub of : IsSite site
  pub numbered : 2 ≤ length rest
  pub none : (names : List (List ℕ)) (more : List ℕ) → AreQueues names → rest ≢ list_bytes names ++ more

-- a row doesn't name a site and a list of queues for this cause
abbrev pub IsHeadingCause : Stored → BaseFault → Type 0
IsHeadingCause row NoBase = row.kind ≢ kind_number Base
IsHeadingCause row BadVersion = IsOfOtherVersion row
IsHeadingCause row WrongSite = IsOfNoSite row
IsHeadingCause row Truncated = IsVersioned row [] ⊎ EndsBeforeQueues row
IsHeadingCause row WrongList = HasNoList row
IsHeadingCause row other = ⊥

-- ---- the head

-- how many bytes the name and the numbers of a base have
abbrev pub head_size : ℕ
head_size = NAME_BYTES + 32

-- behind this list of queues the bytes end before the frames begin
pub record EndsInHead (site : ℕ) (names : List (List ℕ)) (row : Stored) : Type 0 where
  pub rest : List ℕ
  pub front : IsVersioned row (site ∷ (list_bytes names ++ rest))
  pub short : length rest < head_size

-- behind this list of queues a row has a name, numbers and `frames`
pub record HasHead (site : ℕ) (names : List (List ℕ)) (row : Stored) (last : ℕ × ℕ × ℕ) (frames : List ℕ) : Type 0 where
  pub rest : List ℕ
  pub front : IsVersioned row (site ∷ (list_bytes names ++ rest))
  pub name : List ℕ
  pub starts : ℕ
  pub head : IsHead name starts last frames rest

-- ---- the frames

-- bytes begin with a frame of another site or another number than 1
pub record IsOtherFrame (site : ℕ) (bytes : List ℕ) : Type 0 where
  pub frame : Frame
  pub len : ℕ
  pub there : len ≤ length bytes
  pub spelled : Spells frame (take len bytes)
  pub other : (frame.maker ≢ site) ⊎ (frame.number ≢ 1)

-- bytes begin with no delta of the site for this cause
abbrev pub IsDeltaCause : ℕ → List ℕ → BaseFault → Type 0
IsDeltaCause site bytes (Decode fault) = HasFault bytes fault
IsDeltaCause site bytes WrongFrame = IsOtherFrame site bytes
IsDeltaCause site bytes other = ⊥

-- a state is there, and no buffer for this cause
pub record HasNoBuffer (site : ℕ) (frames : List ℕ) (fault : BaseFault) : Type 0 where
  pub state : DeltaState
  pub rest : List ℕ
  pub state_is : IsDeltaAtFront site state frames rest
  pub cause : IsDeltaCause site rest fault

-- bytes follow a state and a buffer
pub record HasTrailing (site : ℕ) (frames : List ℕ) : Type 0 where
  pub state : DeltaState
  pub pending : DeltaState
  pub rest : List ℕ
  pub more : List ℕ
  pub state_is : IsDeltaAtFront site state frames rest
  pub pending_is : IsDeltaAtFront site pending rest more
  pub some : more ≢ []

-- frames are no state and buffer for this cause
abbrev pub IsFramesCause : ℕ → List ℕ → BaseFault → Type 0
IsFramesCause site frames Trailing = HasTrailing site frames
IsFramesCause site frames fault = IsDeltaCause site frames fault ⊎ HasNoBuffer site frames fault

-- the frames of a row are no state and buffer for this cause
pub record HasBadFrames (site : ℕ) (names : List (List ℕ)) (row : Stored) (fault : BaseFault) : Type 0 where
  pub last : ℕ × ℕ × ℕ
  pub frames : List ℕ
  pub head : HasHead site names row last frames
  pub cause : IsFramesCause site frames fault

-- the parts in a row are those of no replica for this cause
pub record HasBadParts (site : ℕ) (names : List (List ℕ)) (row : Stored) (fault : RestoreFault) : Type 0 where
  pub last : ℕ × ℕ × ℕ
  pub frames : List ℕ
  pub head : HasHead site names row last frames
  pub state : DeltaState
  pub pending : DeltaState
  pub parts : HasParts site state pending frames
  pub other : fault ≢ restore.Memory
  pub cause : IsRestoreCause (parts_of site names state pending last) fault

-- a row is no base of this site with these queues for this cause
abbrev pub IsBaseRowCause : ℕ → List (List ℕ) → Stored → BaseFault → Type 0
IsBaseRowCause site names row NoBase = row.kind ≢ kind_number Base
IsBaseRowCause site names row BadVersion = IsOfOtherVersion row
IsBaseRowCause site names row WrongSite = IsOfOtherSite site row
IsBaseRowCause site names row WrongList = IsOfOtherList site names row
IsBaseRowCause site names row Truncated = IsVersioned row [] ⊎ EndsInHead site names row
IsBaseRowCause site names row (Decode fault) = HasBadFrames site names row (Decode fault)
IsBaseRowCause site names row WrongFrame = HasBadFrames site names row WrongFrame
IsBaseRowCause site names row Trailing = HasBadFrames site names row Trailing
IsBaseRowCause site names row (Parts fault) = HasBadParts site names row fault
IsBaseRowCause site names row Memory = ⊥

-- ---- what a row lacks

-- no base of this site with these queues is read of a row
abbrev pub HasNoBase : ℕ → List (List ℕ) → Stored → Type 0
HasNoBase site names row = (base : StoredBase) → base.replica.site ≡ site → base.replica.names ≡ names → IsReadBase row base → ⊥

-- a row names a site and a list of queues
pub record IsHeading (row : Stored) (site : ℕ) (names : List (List ℕ)) : Type 0 where
  pub rest : List ℕ
  pub front : IsVersioned row (site ∷ (list_bytes names ++ rest))
  pub of : IsSite site
  pub queues : AreQueues names

-- a row names no site with a list of queues
abbrev pub HasNoHeading : Stored → Type 0
HasNoHeading row = (site : ℕ) (names : List (List ℕ)) → IsHeading row site names → ⊥

-- a row names a site and a list of queues, and is no base of these for this cause
pub record IsNoNamedBase (row : Stored) (fault : BaseFault) : Type 0 where
  pub site : ℕ
  pub names : List (List ℕ)
  pub heading : IsHeading row site names
  pub cause : IsBaseRowCause site names row fault

-- a row is no base, of whatever site and queues, for this cause
abbrev pub IsAnyBaseCause : Stored → BaseFault → Type 0
IsAnyBaseCause row fault = IsHeadingCause row fault ⊎ IsNoNamedBase row fault

-- ---- parts

-- version and site aren't at the front of bytes for this cause
abbrev pub IsSiteCause : ℕ → List ℕ → BaseFault → Type 0
IsSiteCause site bytes BadVersion = (rest : List ℕ) → bytes ≢ BASE_VERSION ∷ rest
IsSiteCause site bytes Truncated = bytes ≡ BASE_VERSION ∷ []
IsSiteCause site bytes WrongSite = (number : ℕ) × (rest : List ℕ) × (bytes ≡ BASE_VERSION ∷ number ∷ rest) × (number ≢ site)
IsSiteCause site bytes other = ⊥

-- this list of queues isn't at the front of bytes
abbrev pub HasOtherList : List (List ℕ) → List ℕ → Type 0
HasOtherList names bytes = (more : List ℕ) → bytes ≢ list_bytes names ++ more

-- bytes begin with no delta of the site, for this cause
pub record LacksDelta (site : ℕ) (bytes : List ℕ) (fault : BaseFault) : Type 0 where
  pub cause : IsDeltaCause site bytes fault
  pub none : (delta : DeltaState) (rest : List ℕ) → IsDeltaAtFront site delta bytes rest → ⊥

-- frames are no state and buffer of the site, for this cause
pub record LacksParts (site : ℕ) (frames : List ℕ) (fault : BaseFault) : Type 0 where
  pub cause : IsFramesCause site frames fault
  pub none : (state pending : DeltaState) → HasParts site state pending frames → ⊥

-- a row is no base of the site with these queues, for this cause
pub record LacksBase (site : ℕ) (names : List (List ℕ)) (row : Stored) (fault : BaseFault) : Type 0 where
  pub cause : IsBaseRowCause site names row fault
  pub none : HasNoBase site names row

-- version and a site aren't at the front of bytes for this cause
abbrev pub IsNoSiteCause : List ℕ → BaseFault → Type 0
IsNoSiteCause bytes BadVersion = (rest : List ℕ) → bytes ≢ BASE_VERSION ∷ rest
IsNoSiteCause bytes Truncated = bytes ≡ BASE_VERSION ∷ []
IsNoSiteCause bytes WrongSite = (number : ℕ) × (rest : List ℕ) × (bytes ≡ BASE_VERSION ∷ number ∷ rest) × (IsSite number → ⊥)
IsNoSiteCause bytes other = ⊥

-- no name is at the front of bytes
abbrev pub HasNoName : List ℕ → Type 0
HasNoName bytes = (name more : List ℕ) → IsName name → bytes ≢ name_bytes name ++ more

-- fewer names than this number are at the front of bytes
abbrev pub HasFewerNames : ℕ → List ℕ → Type 0
HasFewerNames count bytes = (names : List (List ℕ)) (more : List ℕ) → length names ≡ count → All IsName names → bytes ≢ flat_map name_bytes names ++ more

-- no list of queues is at the front of bytes
abbrev pub HasNoNames : List ℕ → Type 0
HasNoNames bytes = (names : List (List ℕ)) (more : List ℕ) → AreQueues names → bytes ≢ list_bytes names ++ more

-- no list of queues is at the front of bytes for this cause
abbrev pub IsListCause : List ℕ → BaseFault → Type 0
IsListCause bytes Truncated = length bytes < 2
IsListCause bytes WrongList = (2 ≤ length bytes) × HasNoNames bytes
IsListCause bytes other = ⊥

-- a row names no site with a list of queues, for this cause
pub record LacksHeading (row : Stored) (fault : BaseFault) : Type 0 where
  pub cause : IsHeadingCause row fault
  pub none : HasNoHeading row
