-- Which bytes encode a frame, in which version of the format.
use Rattle.std.specs.Prelude.{ℕ, ◌≡◌, ◌≤◌, List, [], ◌∷◌, ◌++◌, length, IsTrue}
use Rattle.std.specs.FinMap as map
use Rattle.std.specs.Int.{w32, w64, to_be_bytes}
use Rattle.std.specs.List.{All}
use Rattle.dots.specs.declared.limits.TheConstants.{MOST_LIVE, MOST_RUNS}
use Rattle.dots.specs.DotSets.{Run, AreApart, IsRunsOf, in_runs}
use Rattle.dots.specs.Orders.{dot_cmp}
use Rattle.general_lemmas.specs.SortedEntries.{IsRising}
use Rattle.operations.specs.Totals.{IsTotal, key_cmp}
use Rattle.dots.specs.Values.{IsCount, IsSite}
use Rattle.causal_context.specs.Contexts.{IsRunWithinLimits}
use Rattle.delta.specs.declared.frame.Frame.{Frame}
use Rattle.delta.specs.DeltaStates.{DeltaState}
use Rattle.delta_codec.specs.declared.limits.TheConstants.{MOST_TOTALS, OLDEST_VERSION, VERSION}
use Rattle.delta_codec.specs.Parts.{CellParts, IsCell, IsListOf, TotalParts, byte, cell_bytes, list_bytes, run_bytes, total_bytes}

-- the maker of a frame, and the frame's number among those of its maker, from 1
pub record Heading : Type 0 where
  pub maker : ℕ
  pub number : ℕ

-- the parts of a frame: its version, its heading, its context by runs, its cells, and its totals
pub record FrameParts : Type 0 where
  pub version : ℕ
  pub heading : Heading
  pub runs : List Run
  pub cells : List CellParts
  pub totals : List TotalParts

-- the letters Q and D
abbrev pub magic : List ℕ
magic = 81 ∷ 68 ∷ []

-- a heading: maker, one byte, and number, eight
abbrev pub heading_bytes : Heading → List ℕ
heading_bytes heading = heading.maker ∷ to_be_bytes w64 heading.number

-- the bytes between the length and the runs: magic, version, one byte, heading
abbrev pub opening_bytes : ℕ → Heading → List ℕ
opening_bytes version heading = magic ++ (byte version ++ heading_bytes heading)

-- the bytes after the length: magic, version, heading, runs, cells, totals
abbrev pub content_bytes : FrameParts → List ℕ
content_bytes parts =
    magic ++ (byte parts.version ++ (heading_bytes parts.heading ++ (list_bytes run_bytes parts.runs ++ (list_bytes cell_bytes parts.cells ++ list_bytes total_bytes parts.totals))))

-- a frame: the number of the bytes that follow, four bytes, and these
abbrev pub frame_bytes : FrameParts → List ℕ
frame_bytes parts = to_be_bytes w32 (length (content_bytes parts)) ++ content_bytes parts

-- a version of the format: one of those that sites read
abbrev pub IsVersion : ℕ → Type 0
IsVersion version = (OLDEST_VERSION ≤ version) × (version ≤ VERSION)

-- a heading is within the limits
pub record IsHeading (heading : Heading) : Type 0 where
  pub maker : IsSite heading.maker
  pub number : IsCount heading.number

-- runs: in order by site, then first, no two touching
abbrev pub AreRuns : List Run → Type 0
AreRuns = IsListOf IsRunWithinLimits AreApart MOST_RUNS

-- cells of a version: in the order of their dots, none twice, each of a dot in a run
pub record AreCells (version : ℕ) (runs : List Run) (cells : List CellParts) : Type 0 where
  pub listed : IsListOf (IsCell version) (IsRising dot_cmp) MOST_LIVE cells
  pub known : All (λ cell. IsTrue (in_runs runs cell.0)) cells

-- totals: in order by site, then queue, none twice
abbrev pub AreTotals : List TotalParts → Type 0
AreTotals = IsListOf (λ total. IsTotal total.0 total.1) (IsRising key_cmp) MOST_TOTALS

-- all parts are within the limits and in order
pub record AreParts (parts : FrameParts) : Type 0 where
  pub version : IsVersion parts.version
  pub heading : IsHeading parts.heading
  pub runs : AreRuns parts.runs
  pub cells : AreCells parts.version parts.runs parts.cells
  pub totals : AreTotals parts.totals

-- parts are those of a frame: the runs of what it knows, its live dots and its totals, each in order
pub record ArePartsOf (frame : Frame) (parts : FrameParts) : Type 0 where
  pub maker : parts.heading.maker ≡ frame.maker
  pub number : parts.heading.number ≡ frame.number
  pub runs : IsRunsOf parts.runs frame.delta.members.known
  pub cells : parts.cells ≡ map.entries frame.delta.members.live
  pub totals : parts.totals ≡ map.entries frame.delta.totals.entries

-- bytes spell a frame, in one of the versions: its parts are within the limits and in order, and the bytes are theirs, in order
pub record Spells (frame : Frame) (bytes : List ℕ) : Type 0 where
  pub parts : FrameParts
  pub of_frame : ArePartsOf frame parts
  pub within : AreParts parts
  pub spelled : bytes ≡ frame_bytes parts

-- bytes spell a frame in this version
pub record SpellsIn (version : ℕ) (frame : Frame) (bytes : List ℕ) : Type 0 where
  pub spells : Spells frame bytes
  pub version_is : spells.parts.version ≡ version

-- the parts, as sites write them, of a frame with this heading and this delta, whose context has these runs
abbrev pub parts_with : Heading → DeltaState → List Run → FrameParts
parts_with heading delta runs = record {
  version = VERSION;
  heading = heading;
  runs = runs;
  cells = map.entries delta.members.live;
  totals = map.entries delta.totals.entries;
}
