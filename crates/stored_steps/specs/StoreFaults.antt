-- Why rows are no store of a site, by what one of them is.
use Rattle.std.specs.Prelude.{ℕ, ◌≡◌, ◌⊎◌, ◌≤◌}
use Rattle.dots.specs.declared.limits.TheConstants.{MOST_COUNT}
use Rattle.site_journal.specs.declared.replay_fault.ReplayFault.{ReplayFault}
use Rattle.site_journal.specs.declared.replay_fault.ReplayFault.TheVariants as replay_faults
use Rattle.stored_steps.specs.declared.base_fault.BaseFault.{BaseFault}
use Rattle.stored_steps.specs.declared.base_fault.BaseFault.TheVariants as base_faults
use Rattle.stored_steps.specs.declared.row_fault.RowFault.{RowFault}
use Rattle.stored_steps.specs.declared.row_fault.RowFault.TheVariants as row_faults
use Rattle.stored_steps.specs.declared.store_fault.StoreFault.{StoreFault}
use Rattle.stored_steps.specs.declared.store_fault.StoreFault.TheVariants.{Base, Row, Damaged, JournalFull, Memory}

-- the fault for a first row that is no base
abbrev pub base_fault : BaseFault → StoreFault
base_fault base_faults.Memory = Memory
base_fault fault = Base fault

-- the fault for the row of a position that is that of no step
abbrev pub row_fault : ℕ → RowFault → StoreFault
row_fault position row_faults.Memory = Memory
row_fault position fault = Row position fault

-- the fault for the row of a position whose step was not done again
abbrev pub replay_fault : ℕ → ReplayFault → StoreFault
replay_fault position replay_faults.JournalFull = JournalFull
replay_fault position (replay_faults.Damaged step) = Damaged position
replay_fault position replay_faults.Memory = Memory

-- a fault doesn't lie in what rows say: it is `Memory`, or `JournalFull` after 2^40 of these or more
abbrev pub IsOutOfRoom : ℕ → StoreFault → Type 0
IsOutOfRoom steps fault = (fault ≡ Memory) ⊎ ((fault ≡ JournalFull) × (MOST_COUNT ≤ steps))
