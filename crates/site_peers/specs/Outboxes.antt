-- What outboxes are handed (this project's own).
use Rattle.std.specs.Prelude.{ℕ, ◌≡◌, ◌⊎◌, ◌+◌, Bool, List, Option, None, Some, [], ◌∷◌, ◌++◌, false}
use Rattle.site_journal.specs.Ports.{PortRun, PortWork}
use Rattle.site_journal.specs.Receipts.{IsOfCut, IsOfWhole}
use Rattle.site_journal.specs.declared.desk_fault.DeskFault.{DeskFault}
use Rattle.site_journal.specs.declared.receipt.Receipt.{Receipt}
use Rattle.site_journal.specs.declared.step.StepDeed.{StepDeed}
use Rattle.site_journal.specs.declared.step.StepDeed.TheVariants.{Asked, Cut, Took, Whole}
use Rattle.site_pumps.specs.Carried.{EachLink}
use Rattle.site_peers.specs.Queues.{IsBegun, IsGiven, IsPut, QueueState}

-- the frame of all that the site knew, if this is one
abbrev pub whole_in : StepDeed → Option (List ℕ)
whole_in (Whole whole) = Some whole
whole_in (Cut frame) = None
whole_in (Asked ask answer) = None
whole_in (Took frame) = None

-- what was done goes into a queue: the frame of a cut is put, a whole is given, and nothing else changes it
abbrev pub GoesInto : QueueState → StepDeed → QueueState → Type 0
GoesInto old (Cut (Some frame)) new = IsPut old frame new
GoesInto old (Whole whole) new = IsGiven old whole new
GoesInto old (Cut None) new = new ≡ old
GoesInto old (Asked ask answer) new = new ≡ old
GoesInto old (Took frame) new = new ≡ old

-- a queue is handed what was done, and says whether it then wants a whole, which from then on is being made for it
abbrev pub IsHanded : QueueState → StepDeed → Bool → QueueState → Type 0
IsHanded old deed wants new = (between : QueueState) × GoesInto old deed between × IsBegun between wants new

-- an outbox is handed a receipt, whatever it says
abbrev pub Handing : {O : Type 0} → (O → Receipt → Bool → O → Type 0) → O → Receipt → O → Type 0
Handing Handed old receipt new = (wants : Bool) × Handed old receipt wants new

-- each outbox is handed a receipt, and says that it wants no whole
abbrev pub NoneWants : {O : Type 0} → (O → Receipt → Bool → O → Type 0) → Receipt → List O → List O → Type 0
NoneWants Handed receipt olds news = EachLink (λ old new. Handed old receipt false new) olds news

-- 1 for a cut, 0 for anything else
abbrev pub deed_count : StepDeed → ℕ
deed_count (Cut frame) = 1
deed_count (Whole whole) = 0
deed_count (Asked ask answer) = 0
deed_count (Took frame) = 0

-- how many of these receipts are of cuts
abbrev pub cut_count : List Receipt → ℕ
cut_count [] = 0
cut_count (receipt ∷ receipts) = deed_count receipt.deed + cut_count receipts

-- a port has made the steps of the receipts and perhaps refused a call for the fault, and each outbox was handed the receipts in order
pub record HasSpread {P O : Type 0} (Makes : P → Receipt → P → Type 0) (Refuses : P → DeskFault → P → Type 0) (Handed : O → Receipt → Bool → O → Type 0)
    (p q : P) (olds news : List O) (receipts : List Receipt) (fault : Option DeskFault) : Type 0 where
  pub work : PortWork Makes Refuses p receipts fault q
  pub handed : EachLink (λ old new. PortRun (Handing Handed) old receipts new) olds news

-- the last of the receipts is of a whole, or the one receipt is of a cut, after which each outbox has said that it wants no whole
abbrev pub IsSettled : {O : Type 0} → (O → Receipt → Bool → O → Type 0) → List Receipt → List O → List O → Type 0
IsSettled Handed receipts olds news =
    ((front : List Receipt) × (whole : Receipt) × (receipts ≡ front ++ whole ∷ []) × IsOfWhole whole)
    ⊎ ((cut : Receipt) × (receipts ≡ cut ∷ []) × IsOfCut cut × NoneWants Handed cut olds news)
