-- Which fault bytes have: they begin with well-formed parts, and the next part breaks the rule that gives the fault.
use Rattle.std.specs.Prelude.{ℕ, ◌≡◌, ◌≢◌, ◌≤◌, ◌<◌, ◌^◌, ◌⊎◌, Bool, true, false, List, [], ◌∷◌, ◌++◌, length, take, Option, None, IfSome, IsTrue, is_some, ◌/◌, ◌%◌, ◌==◌}
use Rattle.std.specs.List.{flat_map, last_or, list_any}
use Rattle.std.specs.Ordering.{is_lt}
use Rattle.std.specs.Int.{w16, w32, to_be_bytes}
use Rattle.dots.specs.declared.limits.TheConstants.{MOST_LIVE, MOST_RUNS, QUEUES, TEXT_BYTES}
use Rattle.dots.specs.DotSets.{Run, in_runs, is_apart}
use Rattle.dots.specs.Orders.{dot_cmp}
use Rattle.operations.specs.Registers.{Entry}
use Rattle.operations.specs.Totals.{IsTotal, key_cmp}
use Rattle.dots.specs.Values.{Dot, IsName, IsPenalty, IsText, is_bad_byte}
use Rattle.dots.specs.WithinLimits.{IsDot, IsLabel, IsPause, IsStamp}
use Rattle.causal_context.specs.Contexts.{IsRunWithinLimits}
use Rattle.delta_codec.specs.declared.decode_fault.DecodeFault.{DecodeFault}
use Rattle.delta_codec.specs.declared.decode_fault.DecodeFault.TheVariants.{Truncated, BadMagic, BadVersion, BadRange, BadOrder, BadText, TooLarge}
use Rattle.delta_codec.specs.declared.limits.TheConstants.{LEAST_LENGTH, MOST_LENGTH, MOST_TOTALS}
use Rattle.delta_codec.specs.Parts.{CellParts, IsCell, IsField, TotalParts, byte, cell_bytes, dot_bytes, field_bytes, label_bytes, list_bytes, most_flags, pause_bytes, penalty_bytes, run_bytes, stamp_bytes, text_bytes, total_bytes}
use Rattle.delta_codec.specs.Frames.{AreCells, AreRuns, AreTotals, IsHeading, IsVersion, heading_bytes, magic}

-- a good part is at the front of the bytes, and the property holds of it and of the bytes after it
pub record After {A : Type 0} (IsGood : A → Type 0) (spell : A → List ℕ) (Next : A → List ℕ → Type 0) (bytes : List ℕ) : Type 0 where
  pub value : A
  pub rest : List ℕ
  pub good : IsGood value
  pub spelled : bytes ≡ spell value ++ rest
  pub next : Next value rest

-- no good part is at the front, and the fault is that of a missing one
pub record Lacks {A : Type 0} (IsGood : A → Type 0) (spell : A → List ℕ) (missing fault : DecodeFault) (bytes : List ℕ) : Type 0 where
  pub none : (value : A) (rest : List ℕ) → IsGood value → bytes ≢ spell value ++ rest
  pub fault_is : fault ≡ missing

-- ---- texts

-- A text is at fault: its length is missing, or it is too short or too long; it isn't all there; or it has a bad byte.
abbrev pub TextFails : ℕ → DecodeFault → List ℕ → Type 0
TextFails least fault [] = fault ≡ BadRange
TextFails least fault (len ∷ rest) =
    (((len < least) ⊎ (TEXT_BYTES < len)) × (fault ≡ BadText))
    ⊎ ((least ≤ len) × (len ≤ TEXT_BYTES) × (length rest < len) × (fault ≡ BadRange))
    ⊎ ((least ≤ len) × (len ≤ TEXT_BYTES) × (len ≤ length rest) × IsTrue (list_any is_bad_byte (take len rest)) × (fault ≡ BadText))

-- The reason without a pause is at fault: its length is missing, or isn't 0.
abbrev pub NoReasonFails : DecodeFault → List ℕ → Type 0
NoReasonFails fault [] = fault ≡ BadRange
NoReasonFails fault (len ∷ rest) = ((TEXT_BYTES < len) × (fault ≡ BadText)) ⊎ ((0 < len) × (len ≤ TEXT_BYTES) × (fault ≡ BadRange))

-- ---- fields

-- a bit is 0 or 1
abbrev pub IsBit : ℕ → Type 0
IsBit n = n < 2

-- the reason that follows the byte of a pause
abbrev pub ReasonFails : DecodeFault → ℕ → List ℕ → Type 0
ReasonFails fault paused bytes = ((paused ≡ 0) × NoReasonFails fault bytes) ⊎ ((paused ≡ 1) × TextFails 0 fault bytes)

-- a penalty is at fault
abbrev pub PenaltyFails : DecodeFault → List ℕ → Type 0
PenaltyFails fault = Lacks IsPenalty penalty_bytes BadRange fault

-- a pause is at fault: its byte, or its reason
abbrev pub PauseFails : DecodeFault → List ℕ → Type 0
PauseFails fault bytes = Lacks IsBit byte BadRange fault bytes ⊎ After IsBit byte (ReasonFails fault) bytes

-- a label is at fault: its first text, or its second
abbrev pub LabelFails : DecodeFault → List ℕ → Type 0
LabelFails fault bytes = TextFails 0 fault bytes ⊎ After IsText text_bytes (λ name rest. TextFails 0 fault rest) bytes

-- a ring is at fault: its byte
abbrev pub RingFails : DecodeFault → List ℕ → Type 0
RingFails fault = Lacks IsBit byte BadRange fault

-- a field that is set is at fault: its stamp, or its value
abbrev pub FieldFails : (DecodeFault → List ℕ → Type 0) → DecodeFault → Bool → List ℕ → Type 0
FieldFails ValueFails fault false bytes = ⊥
FieldFails ValueFails fault true bytes = Lacks IsStamp stamp_bytes BadRange fault bytes ⊎ After IsStamp stamp_bytes (λ stamp rest. ValueFails fault rest) bytes

-- the flags of fields of a version: at least one is set, and none that the version lacks
abbrev pub IsFlags : ℕ → ℕ → Type 0
IsFlags version flags = (1 ≤ flags) × (flags ≤ most_flags version)

-- whether flags say that the penalty is set
abbrev pub penalty_flag : ℕ → Bool
penalty_flag flags = flags % 2 == 1

-- whether flags say that the pause is set
abbrev pub pause_flag : ℕ → Bool
pause_flag flags = flags / 2 % 2 == 1

-- whether flags say that the label is set
abbrev pub label_flag : ℕ → Bool
label_flag flags = flags / 4 % 2 == 1

-- whether flags say that the ring is set
abbrev pub ring_flag : ℕ → Bool
ring_flag flags = flags / 8 % 2 == 1

-- a field is set where its flag is, and within its limits
pub record IsFlagged {T : Type 0} (IsValue : T → Type 0) (flag : Bool) (field : Option (Entry T)) : Type 0 where
  pub set : is_some field ≡ flag
  pub value : IsField IsValue field

-- the fields after their flags are at fault: the penalty, or the pause after it, or the label after both, or the ring after these
abbrev pub FieldsFail : DecodeFault → ℕ → List ℕ → Type 0
FieldsFail fault flags bytes =
    FieldFails PenaltyFails fault (penalty_flag flags) bytes
    ⊎ After (IsFlagged IsPenalty (penalty_flag flags)) (field_bytes penalty_bytes) (λ _ pause.
    FieldFails PauseFails fault (pause_flag flags) pause
    ⊎ After (IsFlagged IsPause (pause_flag flags)) (field_bytes pause_bytes) (λ _ label.
    FieldFails LabelFails fault (label_flag flags) label
    ⊎ After (IsFlagged IsLabel (label_flag flags)) (field_bytes label_bytes) (λ _ ring.
    FieldFails RingFails fault (ring_flag flags) ring) label) pause) bytes

-- ---- runs, cells, totals

-- a dot in one of the queues
pub record QueuedDot : Type 0 where
  pub dot : Dot
  pub queue : ℕ

-- a dot and a queue, two bytes
abbrev pub place_bytes : QueuedDot → List ℕ
place_bytes place = dot_bytes place.dot ++ to_be_bytes w16 place.queue

-- a dot and a queue are within their limits
pub record IsPlace (place : QueuedDot) : Type 0 where
  pub dot : IsDot place.dot
  pub queue : place.queue < QUEUES

-- a cell of a version is at fault: dot or queue, or the interface, or the flags, or a field
abbrev pub CellFails : ℕ → DecodeFault → List ℕ → Type 0
CellFails version fault bytes =
    Lacks IsPlace place_bytes BadRange fault bytes
    ⊎ After IsPlace place_bytes (λ _ interface.
    TextFails 1 fault interface
    ⊎ After IsName text_bytes (λ _ flags.
    Lacks (IsFlags version) byte BadRange fault flags
    ⊎ After (IsFlags version) byte (FieldsFail fault) flags) interface) bytes

-- an element follows the last one of those before it, by this test; the first follows nothing
abbrev pub FollowsLast : {A : Type 0} → (A → A → Bool) → List A → A → Type 0
FollowsLast follows before x = IfSome (last_or None before) (λ last. IsTrue (follows last x))

-- one cell's dot lies before another's
abbrev pub is_cell_before : CellParts → CellParts → Bool
is_cell_before cell next = is_lt (dot_cmp cell.0 next.0)

-- one total's key lies before another's
abbrev pub is_total_before : TotalParts → TotalParts → Bool
is_total_before total next = is_lt (key_cmp total.0 next.0)

-- The next run is at fault, after those before: itself, or it doesn't follow the last one.
abbrev pub RunFails : DecodeFault → List Run → List ℕ → Type 0
RunFails fault before bytes =
    Lacks IsRunWithinLimits run_bytes BadRange fault bytes
    ⊎ After IsRunWithinLimits run_bytes (λ run _. ¬ FollowsLast is_apart before run × (fault ≡ BadOrder)) bytes

-- The next cell is at fault: itself, or it doesn't follow the last one, or its dot is in no run.
abbrev pub NextCellFails : ℕ → List Run → DecodeFault → List CellParts → List ℕ → Type 0
NextCellFails version runs fault before bytes =
    CellFails version fault bytes
    ⊎ After (IsCell version) cell_bytes (λ cell _.
    (¬ FollowsLast is_cell_before before cell × (fault ≡ BadOrder))
    ⊎ (FollowsLast is_cell_before before cell × (in_runs runs cell.0 ≡ false) × (fault ≡ BadRange))) bytes

-- The next total is at fault: itself, or it doesn't follow the last one.
abbrev pub TotalFails : DecodeFault → List TotalParts → List ℕ → Type 0
TotalFails fault before bytes =
    Lacks (λ total. IsTotal total.0 total.1) total_bytes BadRange fault bytes
    ⊎ After (λ total. IsTotal total.0 total.1) total_bytes (λ total _. ¬ FollowsLast is_total_before before total × (fault ≡ BadOrder)) bytes

-- Of `count` elements a prefix is good and in order, and the next is at fault.
pub record ElementsFail {A : Type 0} (IsGood : List A → Type 0) (spell : A → List ℕ) (NextFails : List A → List ℕ → Type 0) (count : ℕ) (bytes : List ℕ) : Type 0 where
  pub before : List A
  pub rest : List ℕ
  pub fewer : length before < count
  pub good : IsGood before
  pub spelled : bytes ≡ flat_map spell before ++ rest
  pub next : NextFails before rest

-- a number that four bytes can hold
abbrev pub IsNumber4 : ℕ → Type 0
IsNumber4 n = n < 2 ^ 32

-- the four bytes of a number, the greatest first
abbrev pub number4 : ℕ → List ℕ
number4 = to_be_bytes w32

-- a list is at fault: its count is missing, or too great, or one of its elements is at fault
abbrev pub ListFails : {A : Type 0} → (List A → Type 0) → (A → List ℕ) → ℕ → (DecodeFault → List A → List ℕ → Type 0) → DecodeFault → List ℕ → Type 0
ListFails IsGood spell most NextFails fault bytes =
    Lacks IsNumber4 number4 BadRange fault bytes
    ⊎ After IsNumber4 number4 (λ count rest.
    ((most < count) × (fault ≡ TooLarge))
    ⊎ ((count ≤ most) × ElementsFail IsGood spell (NextFails fault) count rest)) bytes

-- the list of runs is at fault
abbrev pub RunsFail : DecodeFault → List ℕ → Type 0
RunsFail = ListFails AreRuns run_bytes MOST_RUNS RunFails

-- the list of cells of a version is at fault
abbrev pub CellsFail : ℕ → List Run → DecodeFault → List ℕ → Type 0
CellsFail version runs = ListFails (AreCells version runs) cell_bytes MOST_LIVE (NextCellFails version runs)

-- the list of totals is at fault
abbrev pub TotalsFail : DecodeFault → List ℕ → Type 0
TotalsFail = ListFails AreTotals total_bytes MOST_TOTALS TotalFails

-- ---- the whole

-- What follows the length is at fault: the magic; or the version after it; or the heading; or the runs; or the cells, of which each
-- is of the version and of a dot in a run; or the totals; or bytes follow these.
abbrev pub ContentFails : DecodeFault → List ℕ → Type 0
ContentFails fault bytes =
    Lacks (λ letters. letters ≡ magic) (λ letters. letters) BadMagic fault bytes
    ⊎ After (λ letters. letters ≡ magic) (λ letters. letters) (λ _ versioned.
    Lacks IsVersion byte BadVersion fault versioned
    ⊎ After IsVersion byte (λ version heading.
    Lacks IsHeading heading_bytes BadRange fault heading
    ⊎ After IsHeading heading_bytes (λ _ runs.
    RunsFail fault runs
    ⊎ After AreRuns (list_bytes run_bytes) (λ known cells.
    CellsFail version known fault cells
    ⊎ After (AreCells version known) (list_bytes cell_bytes) (λ _ totals.
    TotalsFail fault totals
    ⊎ After AreTotals (list_bytes total_bytes) (λ _ rest.
    (rest ≢ []) × (fault ≡ BadRange)) totals) cells) runs) heading) versioned) bytes

-- Bytes have a fault: the length is missing; or it is too great, or too small; or fewer bytes follow; or the bytes of that length that follow are at fault.
abbrev pub HasFault : List ℕ → DecodeFault → Type 0
HasFault bytes fault =
    Lacks IsNumber4 number4 Truncated fault bytes
    ⊎ After IsNumber4 number4 (λ len rest.
    ((MOST_LENGTH < len) × (fault ≡ TooLarge))
    ⊎ ((len < LEAST_LENGTH) × (fault ≡ BadRange))
    ⊎ ((LEAST_LENGTH ≤ len) × (len ≤ MOST_LENGTH) × (length rest < len) × (fault ≡ Truncated))
    ⊎ ((LEAST_LENGTH ≤ len) × (len ≤ MOST_LENGTH) × (len ≤ length rest) × ContentFails fault (take len rest))) bytes
