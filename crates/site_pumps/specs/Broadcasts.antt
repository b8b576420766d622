-- What a pump has done that sends each frame on every outlet (this project's own).
use Rattle.std.specs.Prelude.{ℕ, ◌≡◌, ◌+◌, List, [], ◌∷◌, ◌++◌, Option, Some, None, length}
use Rattle.site_journal.specs.Ports.{PortWork}
use Rattle.site_journal.specs.declared.desk_fault.DeskFault.{DeskFault}
use Rattle.site_journal.specs.declared.receipt.Receipt.{Receipt}
use Rattle.site_journal.specs.declared.step.StepDeed.{StepDeed}
use Rattle.site_journal.specs.declared.step.StepDeed.TheVariants.{Asked, Took, Cut, Whole}
use Rattle.site_journal.specs.Receipts.{IsOfCut, IsOfWhole}
use Rattle.site_pumps.specs.declared.broadcasting.FrameKind.{FrameKind}
use Rattle.site_pumps.specs.declared.broadcasting.FrameKind.TheVariants.{Changes, Everything}
use Rattle.site_pumps.specs.Carried.{EachLink}
use Rattle.site_pumps.specs.Outlets.{OutletBegins, OutletRun}

-- the frame that a cut or a whole made, if it made one
abbrev pub frame_in : StepDeed → List (List ℕ)
frame_in (Cut (Some frame)) = frame ∷ []
frame_in (Cut None) = []
frame_in (Whole frame) = frame ∷ []
frame_in (Asked ask answer) = []
frame_in (Took frame) = []

-- the receipt is of a cut, or of a frame of all, as the kind says
abbrev pub IsOfKind : FrameKind → Receipt → Type 0
IsOfKind Changes = IsOfCut
IsOfKind Everything = IsOfWhole

-- the frames of cuts and wholes, in the order of their receipts
abbrev pub frames_in : List Receipt → List (List ℕ)
frames_in [] = []
frames_in (receipt ∷ receipts) = frame_in receipt.deed ++ frames_in receipts

-- a pump has led its port, outlets and sink from the states `p`, `olds` and `k` to `q`, `news` and `m`: the
-- port made the steps of the receipts, and perhaps refused a call for the fault; every outlet was given
-- the frames of the receipts in order, or with a fault a prefix of them; the sink was handed the receipts
pub record HasBroadcast {P O K : Type 0} (Makes : P → Receipt → P → Type 0) (Refuses : P → DeskFault → P → Type 0) (share : P → ℕ) (Given : O → List ℕ → O → Type 0) (Holds : K → List Receipt → Type 0)
    (p q : P) (olds news : List O) (k m : K) (receipts : List Receipt) (fault : Option DeskFault) : Type 0 where
  pub work : PortWork Makes Refuses p receipts fault q
  pub sent : fault ≡ None → EachLink (OutletRun Given (frames_in receipts)) olds news
  pub begun : EachLink (OutletBegins Given (frames_in receipts)) olds news
  pub counted : share q ≡ share p + length receipts
  pub held : (before : List Receipt) → Holds k before → Holds m (before ++ receipts)
