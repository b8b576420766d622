-- A stored step that a journal does again: when it can be next, and how it fails.
use Rattle.std.specs.Prelude.{ℕ, ⊤, ◌≡◌}
use Rattle.replica.specs.Site.{SiteState}
use Rattle.site_journal.specs.declared.desk_fault.DeskFault.{DeskFault}
use Rattle.site_journal.specs.declared.desk_fault.DeskFault.TheVariants as desk_fault
use Rattle.site_journal.specs.declared.replay_fault.ReplayFault.{ReplayFault}
use Rattle.site_journal.specs.declared.replay_fault.ReplayFault.TheVariants.{JournalFull, Damaged, Memory}
use Rattle.site_journal.specs.declared.step.Step.{Step}
use Rattle.site_journal.specs.declared.step.StepDeed.{StepDeed}
use Rattle.site_journal.specs.declared.step.StepDeed.TheVariants.{Asked, Took, Cut, Whole}
use Rattle.site_journal.specs.Journals.{JournalState}
use Rattle.site_journal.specs.Legal.{Leads}

-- a step can be next in a journal: it leads the replica to some state
pub record CanCome (j : JournalState) (step : Step) : Type 0 where
  pub to : SiteState
  pub leads : Leads j.replica step.deed to

-- a deed does what another did: the same ask, the take of the same bytes, a cut or a whole
abbrev pub IsAgain : StepDeed → StepDeed → Type 0
IsAgain (Asked asked answer) (Asked other other_answer) = other ≡ asked
IsAgain (Took bytes) (Took other) = other ≡ bytes
IsAgain (Cut bytes) (Cut other) = ⊤
IsAgain (Whole bytes) (Whole other) = ⊤
IsAgain deed other = ⊥

-- the fault of a replay for the fault of the journal, at a position
abbrev pub replay_fault_of : ℕ → DeskFault → ReplayFault
replay_fault_of position desk_fault.JournalFull = JournalFull
replay_fault_of position desk_fault.Memory = Memory
replay_fault_of position (desk_fault.Rewound len) = Damaged position
replay_fault_of position (desk_fault.Decode fault) = Damaged position
replay_fault_of position (desk_fault.Take fault) = Damaged position
replay_fault_of position desk_fault.Exhausted = Damaged position
replay_fault_of position desk_fault.Unsaved = Damaged position
