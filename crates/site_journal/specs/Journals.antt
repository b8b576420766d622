-- What contracts see of a journal.
use Rattle.std.specs.Prelude.{ℕ, ◌≡◌, ◌≢◌, ◌≤◌, ◌<◌, ◌+◌, ◌⊎◌, ⊤, List, [], ◌∷◌, ◌++◌, length, take, Result, Ok, Err, refl}
use Rattle.std.specs.Coded.{Coded, code_by, coded×, coded_ℕ, coded_list}
use Rattle.dots.specs.declared.limits.TheConstants.{MOST_COUNT}
use Rattle.delta.specs.declared.frame.Frame.{Frame}
use Rattle.delta_codec.specs.Faults.{HasFault}
use Rattle.delta_codec.specs.Frames.{Spells}
use Rattle.delta_codec.specs.declared.decode_fault.DecodeFault.{DecodeFault}
use Rattle.delta_codec.specs.declared.decode_fault.DecodeFault.TheVariants.{BadRange}
use Rattle.delta_codec.specs.declared.decode_fault.DecodeFault.TheVariants as decode_fault
use Rattle.replica.specs.Site as sites
use Rattle.replica.specs.Site.{IsSameSite, SiteState, site_code}
use Rattle.replica.specs.Taking.{IsRefusedTake}
use Rattle.replica.specs.declared.take_fault.TakeFault.{TakeFault}
use Rattle.replica.specs.declared.take_fault.TakeFault.TheVariants as take_fault
use Rattle.status_report.specs.declared.asks.Ask.{Ask}
use Rattle.site_journal.specs.contracts.step.Step as step
use Rattle.site_journal.specs.declared.desk_fault.DeskFault.{DeskFault}
use Rattle.site_journal.specs.declared.desk_fault.DeskFault.TheVariants as desk_fault
use Rattle.site_journal.specs.declared.journaled.TheConstants.{MOST_STEPS}
use Rattle.site_journal.specs.declared.step.Step.{Step}
use Rattle.site_journal.specs.declared.step.StepDeed.{StepDeed}
use Rattle.site_journal.specs.declared.step.StepDeed.TheVariants.{Asked, Cut, Whole}
use Rattle.site_journal.specs.Legal.{IsAsked, LeadAll, Leads}

-- what contracts see of a journal: the replica that it began from, the steps since, the number of steps before the base, the
-- number in all, the most that it may hold, and the replica now
pub record JournalState : Type 0 where
  pub base : SiteState
  pub steps : List Step
  pub start : ℕ
  pub count : ℕ
  pub limit : ℕ
  pub replica : SiteState

-- a journal is stored as the tuple of its fields
abbrev pub journal_code : Coded JournalState
journal_code =
    code_by (SiteState × (List Step × (ℕ × (ℕ × (ℕ × SiteState)))))
    (coded× site_code (coded× (coded_list step.the_row.coded) (coded× coded_ℕ (coded× coded_ℕ (coded× coded_ℕ site_code)))))
    (λ j. (j.base, (j.steps, (j.start, (j.count, (j.limit, j.replica))))))
    (λ p. record { base = p.0; steps = p.1.0; start = p.1.1.0; count = p.1.1.1.0; limit = p.1.1.1.1.0; replica = p.1.1.1.1.1 })
    (λ _. refl)

-- the invariant of a journal `j`: its steps lead from its base to its replica and are counted, at most 2^40 in all, and it
-- holds at most `limit` of them, which is 1 to MOST_STEPS
pub record IsJournal (j : JournalState) : Type 0 where
  pub legal : LeadAll j.base j.steps j.replica
  pub counted : j.count ≡ j.start + length j.steps
  pub within : length j.steps ≤ j.limit
  pub most : j.count ≤ MOST_COUNT
  pub some : 1 ≤ j.limit
  pub few : j.limit ≤ MOST_STEPS

-- journal `j` has just begun from `replica`, without steps and with this `limit`; its base says what the replica says
pub record IsNewJournal (replica : SiteState) (limit : ℕ) (j : JournalState) : Type 0 where
  pub base : IsSameSite replica j.base
  pub steps : j.steps ≡ []
  pub start : j.start ≡ 0
  pub count : j.count ≡ 0
  pub limit_is : j.limit ≡ limit
  pub replica_is : j.replica ≡ replica

-- journal `j` is that of the site of the number `site`, with the queues `names`, at its base and now
pub record IsOfSite (site : ℕ) (names : List (List ℕ)) (j : JournalState) : Type 0 where
  pub base_site : j.base.site ≡ site
  pub base_names : j.base.names ≡ names
  pub site_is : j.replica.site ≡ site
  pub names_are : j.replica.names ≡ names

-- no step may be added to journal `j`: it holds its limit of steps, or 2^40 were done in all
abbrev pub IsFull : JournalState → Type 0
IsFull j = (j.limit ≤ length j.steps) ⊎ (j.count ≡ MOST_COUNT)

-- from journal `old` to `new` nothing has changed but the room of the replica
pub record IsUnchanged (old new : JournalState) : Type 0 where
  pub base : new.base ≡ old.base
  pub steps : new.steps ≡ old.steps
  pub start : new.start ≡ old.start
  pub count : new.count ≡ old.count
  pub limit : new.limit ≡ old.limit
  pub replica : sites.IsUnchanged old.replica new.replica

-- journal `new` is `old` with `step` as one step more, which has led the replica of `old` to that
-- of `new`
pub record HasAdded (old : JournalState) (step : Step) (new : JournalState) : Type 0 where
  pub base : new.base ≡ old.base
  pub steps : new.steps ≡ old.steps ++ step ∷ []
  pub start : new.start ≡ old.start
  pub count : new.count ≡ old.count + 1
  pub limit : new.limit ≡ old.limit
  pub done : Leads old.replica step.deed new.replica

-- journal `new` is `old` without its steps: its base says what the replica says, and they still
-- count as done
pub record HasDropped (old new : JournalState) : Type 0 where
  pub base : IsSameSite old.replica new.base
  pub steps : new.steps ≡ []
  pub start : new.start ≡ old.start + length old.steps
  pub count : new.count ≡ old.count
  pub limit : new.limit ≡ old.limit
  pub replica : new.replica ≡ old.replica

-- a deed is the ask `asked` with the site's answer to it in state `old`, which isn't out of memory and led it to `new`
abbrev pub IsAnswerTo : SiteState → Ask → SiteState → StepDeed → Type 0
IsAnswerTo old asked new (Asked other answer) = (other ≡ asked) × IsAsked old asked answer new
IsAnswerTo old asked new other = ⊥

-- a deed is a cut, of a frame or of an empty buffer
abbrev pub IsStepOfCut : StepDeed → Type 0
IsStepOfCut (Cut bytes) = ⊤
IsStepOfCut other = ⊥

-- a deed is a whole: all that the site knows was put into a frame
abbrev pub IsStepOfWhole : StepDeed → Type 0
IsStepOfWhole (Whole bytes) = ⊤
IsStepOfWhole other = ⊥

-- a take may be refused for this cause: the journal is full, the bytes are no frame, the site refuses the frame, or out of
-- memory
abbrev pub RefusesTake : DeskFault → Type 0
RefusesTake desk_fault.JournalFull = ⊤
RefusesTake (desk_fault.Decode fault) = fault ≢ decode_fault.Memory
RefusesTake (desk_fault.Take fault) = fault ≢ take_fault.Memory
RefusesTake desk_fault.Memory = ⊤
RefusesTake desk_fault.Exhausted = ⊥
RefusesTake desk_fault.Unsaved = ⊥
RefusesTake (desk_fault.Rewound len) = ⊥

-- a call was refused for the cause `fault`, and returned its argument
abbrev pub IsRefusedFor : {A B : Type 0} → Result A (DeskFault × B) → DeskFault → Type 0
IsRefusedFor (Ok x) fault = ⊥
IsRefusedFor (Err refused) fault = refused.0 ≡ fault

-- `bytes` begin with a frame, and more bytes follow it
pub record HasMore (bytes : List ℕ) : Type 0 where
  pub frame : Frame
  pub len : ℕ
  pub spelled : Spells frame (take len bytes)
  pub more : len < length bytes

-- `bytes` have `fault` as one whole frame: it is their own as a frame, or it is `BadRange` and more bytes follow their frame
abbrev pub HasFaultAlone : List ℕ → DecodeFault → Type 0
HasFaultAlone bytes fault = HasFault bytes fault ⊎ ((fault ≡ BadRange) × HasMore bytes)

-- `bytes` spell no frame
abbrev pub SpellNoFrame : List ℕ → Type 0
SpellNoFrame bytes = (frame : Frame) → Spells frame bytes → ⊥

-- `bytes` spell a frame that a site in state `s` refuses for the cause `fault`, the first that applies
pub record IsRefusedFrame (s : SiteState) (bytes : List ℕ) (fault : TakeFault) : Type 0 where
  pub frame : Frame
  pub spelled : Spells frame bytes
  pub refused : IsRefusedTake s frame.delta (λ cause. fault ≡ cause)
