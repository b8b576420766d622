-- Promises of the definitions of commands and steps, as statements that the laws prove.
use Rattle.std.specs.Prelude.{ℕ, ⊤, ◌≡◌, Option, List, ◌∷◌, ◌&&◌}
use Rattle.std.specs.FinSet as set
use Rattle.dots.specs.DotSets.{is_older}
use Rattle.dots.specs.Values.{Dot, IsSite, IsPenalty, IsName}
use Rattle.dots.specs.declared.calls.Calls.{Calls}
use Rattle.operations.specs.Operations.{Operation}
use Rattle.operations.specs.Knowledge.{Knowledge, SameOperations, IsConsistent, is_named, visible_dots, known_dots}
use Rattle.operations.specs.Rows.{ShowAlike}
use Rattle.operations.specs.Traces.{LeavesTrace}
use Rattle.dots.specs.WithinLimits.{IsLabel}
use Rattle.operations.specs.OperationLimits.{AreWithinLimits, IsSetting, IsWithinLimits}
use Rattle.replica.specs.declared.refusal.Refusal.{Refusal}
use Rattle.replica.specs.Changes.{Change, AddMember, RemoveMember, SetField, CountCall, Makes, meaning}
use Rattle.replica.specs.Queues.{AreQueues}
use Rattle.replica.specs.SiteViews.{SiteView, site_view, dots_seen, older_dots, visible_with, known_with}
use Rattle.replica.specs.Steps.{SiteKnowledge, Step, Denied, NoNumber, Nothing, CellsFull, RunsFull, step}

-- the site view for one operation more is that of the knowledge with that operation
pub record ForeseesOneMore (site : ℕ) (k : Knowledge) (o : Operation) : Type 0 where
  pub visible : visible_with (site_view site k) o ≡ visible_dots (o ∷ k)
  pub known : known_with (site_view site k) o ≡ known_dots (o ∷ k)

-- the older dots are the dead ones of lesser counts: those that are known, and that some operation has named
abbrev pub OlderAreNamed : Type 0
OlderAreNamed = (site : ℕ) (k : Knowledge) (dots : List Dot) (dot : Dot) → set.contains (older_dots (site_view site k) dots) dot ≡ (is_named k dot && is_older dots dot)

-- a command means the same wherever the operations of the knowledge, and those of the buffer, are the same
abbrev pub MeansTheSame : Type 0
MeansTheSame = (site : ℕ) (names : List (List ℕ)) (change : Change) (k l buffer other : Knowledge) → IsConsistent k → SameOperations k l
    → IsConsistent buffer → SameOperations buffer other
    → meaning site names (site_view site k) (site_view site buffer) change ≡ meaning site names (site_view site l) (site_view site other) change

-- Site views are alike: their dots show the same, and known dots, totals and last numbers are the same.
pub record AreAlike (r s : SiteView) : Type 0 where
  pub dots : ShowAlike r.dots s.dots
  pub known : r.known ≡ s.known
  pub totals : (site queue : ℕ) (calls : Calls) → r.totals site queue calls ≡ s.totals site queue calls
  pub last_count : r.last_count ≡ s.last_count
  pub last_time : r.last_time ≡ s.last_time

-- The views of two buffers are as full: the same dots are visible, and the same known. Nothing else is asked of a buffer.
pub record AreAsFull (r s : SiteView) : Type 0 where
  pub visible : r.dots.visible ≡ s.dots.visible
  pub known : r.known ≡ s.known

-- if site views of knowledges are alike, and buffers are as full, a command is for the same dots and means the same
pub record MeansTheSameAlike (r s buffer other : SiteView) : Type 0 where
  pub seen : (queue : Option ℕ) (interface : List ℕ) → dots_seen r.dots queue interface ≡ dots_seen s.dots queue interface
  pub meanings : (site : ℕ) (names : List (List ℕ)) (change : Change) → meaning site names r buffer change ≡ meaning site names s other change

-- a step that is refused changes nothing, for whatever cause
pub record RefusalsChangeNothing (site : ℕ) (names : List (List ℕ)) (s : SiteKnowledge) (event : Step) : Type 0 where
  pub denied : (refusal : Refusal) → (step site names s event).1 ≡ Denied refusal → (step site names s event).0 ≡ s
  pub nothing : (step site names s event).1 ≡ Nothing → (step site names s event).0 ≡ s
  pub no_number : (step site names s event).1 ≡ NoNumber → (step site names s event).0 ≡ s
  pub cells_full : (step site names s event).1 ≡ CellsFull → (step site names s event).0 ≡ s
  pub runs_full : (step site names s event).1 ≡ RunsFull → (step site names s event).0 ≡ s

-- a change of values that are within their limits
abbrev pub IsChange : Change → Type 0
IsChange (AddMember queue interface penalty paused label) = IsName interface × (IsPenalty penalty × IsLabel label)
IsChange (RemoveMember queue interface) = IsName interface
IsChange (SetField queue interface setting) = IsName interface × IsSetting setting
IsChange (CountCall queue calls) = ⊤

-- a change of values within their limits, at a site whose operations are all within theirs, makes an operation within its limits
abbrev pub MakesWithinLimits : Type 0
MakesWithinLimits = (site : ℕ) (names : List (List ℕ)) (change : Change) (k buffer : Knowledge) (o : Operation) → IsSite site → AreQueues names → IsChange change
    → AreWithinLimits k → meaning site names (site_view site k) (site_view site buffer) change ≡ Makes o → IsWithinLimits o

-- each operation that a change makes leaves a trace, at every site view
abbrev pub MakesTraces : Type 0
MakesTraces = (site : ℕ) (names : List (List ℕ)) (change : Change) (r buffer : SiteView) (o : Operation) → meaning site names r buffer change ≡ Makes o → LeavesTrace o
