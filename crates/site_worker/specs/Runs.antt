-- The results of a site whose threads are run.
use Rattle.std.specs.Prelude.{ℕ, ◌≡◌, ◌≤◌, ◌+◌, [], ◌∷◌, List, Option, None, Some, length, map, slice_get, slice_index_or, vec_len}
use Rattle.std.specs.Option.{option_or}
use Rattle.std.specs.Global.{Vec}
use Rattle.replica.specs.Deeds.{IsNew}
use Rattle.site_journal.specs.declared.desk_fault.DeskFault.{DeskFault}
use Rattle.site_journal.specs.declared.journaled.TheConstants.{MOST_STEPS}
use Rattle.site_journal.specs.declared.receipt.Receipt.{Receipt}
use Rattle.site_journal.specs.Journals.{IsOfSite, JournalState}
use Rattle.site_journal.specs.Settling.{list_of}
use Rattle.site_worker.specs.declared.work.SiteEnd.{SiteEnd}
use Rattle.site_worker.specs.declared.work.SiteWork.{SiteWork}
use Rattle.site_worker.specs.Gates.{IsGatedBy}
use Rattle.site_worker.specs.Working.{AnswerFront, AreInOrder, AreOfPasses, ArePossibleSomewhere, HaveSent, HaveTaken, receipts_in}
use Rattle.status_report.specs.declared.asks.Ask.{Ask}

-- a journal has the greatest limit of steps; if no step was dropped, it began from a new site
pub record HasBegun (journal : JournalState) : Type 0 where
  pub limit : journal.limit ≡ MOST_STEPS
  pub new : journal.start ≡ 0 → IsNew journal.base

-- the receipts of the first pass answer asks in order, all of them unless there was a fault
pub record HasAnsweredAsks (site : ℕ) (names : List (List ℕ)) (asks : List Ask) (lists : List (List Receipt)) (fault : Option DeskFault) : Type 0 where
  pub front : AnswerFront site names asks (list_of lists 0)
  pub all : fault ≡ None → length (list_of lists 0) ≡ length asks

-- the receipts of the second pass are those of one that sends, and those of each later one of one that takes
pub record HavePumped (lists : List (List Receipt)) (fault : Option DeskFault) : Type 0 where
  pub sent : HaveSent (list_of lists 1) fault
  pub took : (pass : ℕ) → 2 ≤ pass → HaveTaken (list_of lists pass)

-- the first fault of passes, each of which has a fault or none
abbrev pub first_fault : List (Option DeskFault) → Option DeskFault
first_fault [] = None
first_fault (own ∷ later) = option_or own (first_fault later)

-- the fault of the pass of this number, if it has one
abbrev pub fault_of : List (Option DeskFault) → ℕ → Option DeskFault
fault_of faults pass = slice_index_or faults pass None

-- `fault` is that of the first pass that ended with a fault: each pass ended with its own of `faults`,
-- or with none. The first pass answered all asks unless it has a fault, and the receipts of the second
-- are those of one that sends, with its own fault
pub record HasFirstFault (asks : List Ask) (lists : List (List Receipt)) (fault : Option DeskFault) : Type 0 where
  pub faults : List (Option DeskFault)
  pub number : length faults ≡ length lists
  pub first : fault ≡ first_fault faults
  pub asked : fault_of faults 0 ≡ None → length (list_of lists 0) ≡ length asks
  pub sent : HaveSent (list_of lists 1) (fault_of faults 1)

-- a site has run with `number` passes: it ends with a list of receipts for each, which are as many as its journal has steps
pub record HasRun (site : ℕ) (names : List (List ℕ)) (number : ℕ) (asks : List Ask) (journal : JournalState) (lists : List (List Receipt)) (fault : Option DeskFault) : Type 0 where
  pub own_site : IsOfSite site names journal
  pub begun : HasBegun journal
  pub passes : length lists ≡ number
  pub count : journal.count ≡ receipts_in lists
  pub own : AreOfPasses 0 lists
  pub order : AreInOrder lists
  pub possible : ArePossibleSomewhere site names lists
  pub answered : HasAnsweredAsks site names asks lists fault
  pub pumped : HavePumped lists fault
  pub faults : HasFirstFault asks lists fault

-- sites have run, one for each of these works and all of these queues: each has done its work's asks, and its work's gate was
-- called for its receipts
pub record HaveRun {G : Type 0} (Called : G → ℕ → G → Type 0) (names : List (List ℕ)) (works : Vec (SiteWork G)) (ends : Vec (SiteEnd G)) : Type 0 where
  pub number : vec_len ends ≡ vec_len works
  pub ran : (site : ℕ) (end : SiteEnd G) → slice_get ends.items site ≡ Some end
      → HasRun site names (vec_len works + 1) (slice_index_or (map (λ (work : SiteWork G). work.asks.items) works.items) site []) end.journal (map (λ list. list.items) end.receipts.items) end.fault
  pub gated : (site : ℕ) (work : SiteWork G) (end : SiteEnd G) → slice_get works.items site ≡ Some work → slice_get ends.items site ≡ Some end
      → IsGatedBy Called work.gate (map (λ list. list.items) end.receipts.items) end.fault end.gate
